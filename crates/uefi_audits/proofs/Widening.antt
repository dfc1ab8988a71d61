-- Bytes as units of UTF-16.
use Rattle.std.proofs.Common.{◌≡◌, ◌∙◌, ℕ, List, [], ◌∷◌, ◌++◌, drop, length, append_assoc, append-nil, get_or, ap, sym, subst, refl, arith}
use Rattle.std.specs.Prelude.{◌==◌, false}
use Rattle.std.proofs.lemmas.Bool.{true≢false}
use Rattle.std.proofs.lemmas.Grind.{flat_map-append}
use Rattle.uefi_audits.specs.Check.{widened}

-- One more unit.
pub widened_more : (units bytes new rest after : List ℕ) (byte : ℕ) → units ≡ widened bytes ++ rest → rest ≡ byte ∷ 0 ∷ after
    → new ≡ bytes ++ byte ∷ [] → units ≡ widened new ++ after
widened_more units bytes new rest after byte is cut pushed =
    is ∙ ap (λ it. widened bytes ++ it) cut ∙ sym (append_assoc (widened bytes) (byte ∷ 0 ∷ []) after)
    ∙ ap (λ it. it ++ after) (sym (ap widened pushed ∙ flat_map-append (λ it. it ∷ 0 ∷ []) bytes (byte ∷ [])))

-- Units of which one is 256 or more, or is cut, aren't those of bytes.
cut_short : (bytes rest all : List ℕ) → widened bytes ++ rest ≡ widened all → (rest ≡ [] → ⊥)
    → ((byte : ℕ) (after : List ℕ) → rest ≡ byte ∷ 0 ∷ after → ⊥) → ⊥
cut_short [] rest [] same some none = some same
cut_short [] rest (byte ∷ all) same some none = none byte (widened all) same
cut_short (byte ∷ bytes) rest [] same some none = absurd (omega (arith, ap length same))
cut_short (byte ∷ bytes) rest (other ∷ all) same some none = cut_short bytes rest all (ap (drop 2) same) some none

pub widened_not : (units bytes rest : List ℕ) → units ≡ widened bytes ++ rest → (length rest == 0) ≡ false
    → ((byte : ℕ) (after : List ℕ) → rest ≡ byte ∷ 0 ∷ after → ⊥) → (all : List ℕ) → units ≡ widened all → ⊥
widened_not units bytes rest is some none all also =
    cut_short bytes rest all (sym is ∙ also)
    (λ empty. true≢false (subst (λ (it : List ℕ). (length it == 0) ≡ false) empty some)) none

pub widened_whole : (units bytes rest : List ℕ) → units ≡ widened bytes ++ rest → rest ≡ [] → units ≡ widened bytes
widened_whole units bytes rest is empty = is ∙ ap (λ it. widened bytes ++ it) empty ∙ append-nil (widened bytes)

-- Units are those of one list of bytes.
pub one_narrowed : (bytes other : List ℕ) → widened bytes ≡ widened other → other ≡ bytes
one_narrowed [] [] same = refl
one_narrowed [] (byte ∷ other) same = absurd (omega (arith, ap length same))
one_narrowed (byte ∷ bytes) [] same = absurd (omega (arith, ap length same))
one_narrowed (byte ∷ bytes) (first ∷ other) same =
    ap (λ it. get_or it 0 0 ∷ other) (sym same) ∙ ap (λ it. byte ∷ it) (one_narrowed bytes other (ap (drop 2) same))
