-- The characters of text, their units and their bytes in UTF-8.
use Rattle.std.proofs.Common.{◌≡◌, ℕ, zero, suc, ◌+◌, ◌<◌, ◌≤◌, true, Option, None, Some, List, [], ◌∷◌, ◌++◌, length}
use Rattle.std.proofs.Common.{get_or, take, sym, arith, ⊎_elim}
use Rattle.std.specs.List.{AllWithin, HoldsAt}
use Rattle.std.specs.Option.{MatchOption}
use Rattle.std.specs.Str.{chars, IsUtf8}
use Rattle.std.proofs.lemmas.Bool.{and_parts}
use Rattle.std.proofs.lemmas.List.{take_more, append-nil, length_push, get_or_read, get_or_append_left, get_or_push}
use Rattle.std.proofs.lemmas.Str.{encodes-append, scalars-chars}
use Rattle.std.proofs.Math.Utf8.{encode, encodes, scalar, scalars, scalar_cases}
use Rattle.uefi_base.specs.Ucs2.{IsSurrogate, IsUcs2Text, HasUnit, MakeUcs2Text}
use Rattle.uefi_base.specs.private.Search.{IsFirstWithoutUnit}

-- The bytes of i + 1 characters are those of i characters and of the next.
pub encodes_more : (cs : List ℕ) (i : ℕ) → i < length cs
    → encodes (take (i + 1) cs) ≡ encodes (take i cs) ++ encode (get_or cs i 0)
encodes_more cs i within =
    rw (take_more cs i 0 within) (simp (encodes-append, append-nil))

-- Each of the characters that make text has a unit of its own.
pub has_unit : (cs : List ℕ) (i c : ℕ) → MakeUcs2Text cs → (i < length cs) × (c ≡ get_or cs i c) → c ≤ 0xffff
has_unit cs i c make here =
    let read : c ≡ get_or cs i 0 = get_or_read cs i c here.0 here.1 0 in
    let unit = make.have_units i here.0 in
    omega arith

-- A character of Rust isn't a surrogate.
no_surrogate : (c : ℕ) → scalar c ≡ true → ¬ IsSurrogate c
no_surrogate c is_scalar in_range = ⊎_elim (λ below. omega arith) (λ above. omega arith) (scalar_cases c is_scalar)

-- Each of Rust's characters is a scalar value.
scalar_at : (cs : List ℕ) (k : ℕ) → scalars cs ≡ true → k < length cs → scalar (get_or cs k 0) ≡ true
scalar_at [] k all within = absurd (omega arith)
scalar_at (c ∷ cs) zero all within = (and_parts (scalar c) (scalars cs) all).0
scalar_at (c ∷ cs) (suc k) all within = scalar_at cs k (and_parts (scalar c) (scalars cs) all).1 (omega arith)

-- Characters that make text are text with a NUL after them.
pub text_of_chars : (bytes : List ℕ) → IsUtf8 bytes → MakeUcs2Text (chars bytes) → IsUcs2Text (chars bytes ++ 0 ∷ [])
text_of_chars bytes utf8 make =
    let whole : length (chars bytes ++ 0 ∷ []) ≡ length (chars bytes) + 1 = length_push (chars bytes) 0 in
    let short = make.short in
    record {
      short = omega arith;
      not_empty = omega arith;
      nul = get_or_push (chars bytes) 0 0 _ (omega arith);
      characters = λ k before.
          let same = get_or_append_left (chars bytes) (0 ∷ []) 0 k (omega arith) in
          let unit = make.have_units k (omega arith) in
          let sound : ¬ IsSurrogate (get_or (chars bytes) k 0) =
          no_surrogate _ (scalar_at (chars bytes) k (scalars-chars bytes utf8) (omega arith)) in
          rw same (record { no_surrogate = sound; not_nul = λ zero. omega arith });
    }

-- A search for a character without a unit of its own finds the first.
pub first_without_unit : (cs : List ℕ) (found : Option ℕ)
    → MatchOption found (AllWithin HasUnit cs 0 (length cs)) (λ c. (¬ HasUnit c) × (i : ℕ) × (i < length cs)
    × HoldsAt (λ d. d ≡ c) cs i × AllWithin HasUnit cs 0 i) → IsFirstWithoutUnit cs found
first_without_unit cs None each = λ k before. each k 0 (omega arith) before
first_without_unit cs (Some c) first =
    (first.1, first.2, sym (first.3 0), (λ k before. first.4 k 0 (omega arith) before), first.0)
