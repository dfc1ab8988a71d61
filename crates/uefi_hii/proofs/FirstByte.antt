-- The first byte of a kind in a text, as a search by sixteen bytes finds it.
use Rattle.std.proofs.Common.{◌≡◌, ℕ, suc, ◌+◌, ◌*◌, ◌<◌, ◌≤◌, Bool, true, cond, not, List, [], ◌∷◌, map, length}
use Rattle.std.proofs.Common.{get_or, ◌-◌, sym, ◌∙◌, arith, inl, inr}
use Rattle.std.specs.Prelude.{◌==◌, Option, Some, None, nat_lt, if◌then◌else◌}
use Rattle.std.specs.List.{position_or_len}
use Rattle.std.proofs.lemmas.Bool.{cases_lt}
use Rattle.std.proofs.lemmas.List.Sums.{position_or_len_is, prefix_len-le-length}
use Rattle.std.proofs.lemmas.Simd.{length-chunk, run_in_chunk_fails, run_in_chunk_stops}
use lib.Lanes.{chunk, mask_l}
use Rattle.uefi_hii.specs.private.Finding.{FindsFirst, IsNotBefore}

-- The index before which the byte doesn't stand, and at which it does, is the first; or there is none.
pub finds : (byte index : ℕ) (bytes : List ℕ) → index < length bytes → IsNotBefore byte index bytes
    → (get_or bytes index 0 == byte) ≡ true → FindsFirst byte bytes (Some index)
finds byte index bytes within none at =
    (sym (position_or_len_is (λ c. c == byte) bytes index 0 (omega arith) none (λ _. at)), within)

pub finds_none : (byte : ℕ) (bytes : List ℕ) → IsNotBefore byte (length bytes) bytes → FindsFirst byte bytes None
finds_none byte bytes none =
    position_or_len_is (λ c. c == byte) bytes (length bytes) 0 (omega arith) none (λ below. absurd (omega arith))

-- One lane more, whether it passes the test or not.
one_more : (b : Bool) (mask position count : ℕ) → 0 < cond b 1 0 + 2 * mask → (0 < mask → position < count)
    → cond (not b) (1 + position) 0 < suc count
one_more b mask position count set more = grind arith

-- Where a bit of a mask is set, some lane passes the test.
pub some_lane_passes : (p : ℕ → Bool) (lanes : List ℕ) → 0 < mask_l (map p lanes)
    → position_or_len p lanes < length lanes
some_lane_passes p [] set = absurd (omega (arith, set))
some_lane_passes p (x ∷ lanes) set = one_more (p x) _ _ _ set (some_lane_passes p lanes)

module _ (byte index n : ℕ) (bytes : List ℕ) (within : index + n ≤ length bytes) where
  -- A block of bytes moves the search on, up to the first in it.
  not_before_in_block : (run : ℕ) → run ≡ position_or_len (λ c. c == byte) (chunk index n bytes)
      → IsNotBefore byte index bytes → IsNotBefore byte (index + run) bytes
  not_before_in_block run is none k below = elim (cases_lt k index) [
    | inl before ↦ none k before
    | inr after ↦ run_in_chunk_fails (λ c. c == byte) bytes index n run 0 within is k after below
  ]

  pub not_in_block : FindsFirst byte (chunk index n bytes) None → IsNotBefore byte index bytes
      → IsNotBefore byte (index + n) bytes
  not_in_block is = not_before_in_block n (sym (is ∙ length-chunk index n bytes within))

  -- A byte that was found in a block is the first.
  pub finds_in_block : (run : ℕ) → FindsFirst byte (chunk index n bytes) (Some run) → IsNotBefore byte index bytes
      → FindsFirst byte bytes (Some (index + run))
  finds_in_block run found none =
      let few : run < n = omega (arith, found.1, length-chunk index n bytes within) in
      finds byte (index + run) bytes (omega arith) (not_before_in_block run found.0 none)
      (run_in_chunk_stops (λ c. c == byte) bytes index n run 0 within found.0 few)

-- The bytes from an index on, before which none is such a byte.
module _ (byte start : ℕ) (bytes : List ℕ) (within : start ≤ length bytes) (none : IsNotBefore byte start bytes) where
  abbrev pub rest : List ℕ
  rest = chunk start (length bytes - start) bytes

  pub finds_in_rest : (index : ℕ) → FindsFirst byte rest (Some index) → FindsFirst byte bytes (Some (start + index))
  finds_in_rest index is = finds_in_block byte start (length bytes - start) bytes (omega arith) index is none

  pub not_in_rest : FindsFirst byte rest None → FindsFirst byte bytes None
  not_in_rest is =
      finds_none byte bytes
      (λ k below. not_in_block byte start (length bytes - start) bytes (omega arith) is none k (omega arith))

-- What `position` returns is the index of the first such byte.
pub is_first : (byte : ℕ) (bytes : List ℕ) (r : Option ℕ)
    → r ≡ (if nat_lt (position_or_len (λ c. c == byte) bytes) (length bytes)
    then Some (position_or_len (λ c. c == byte) bytes) else None) → FindsFirst byte bytes r
is_first byte bytes None e = grind (arith, prefix_len-le-length (λ c. not (c == byte)) bytes)
is_first byte bytes (Some index) e = grind arith
