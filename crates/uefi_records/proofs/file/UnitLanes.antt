-- The units of bytes as the lanes of a vector, and the search through a block of them.
use Rattle.std.proofs.Common.{◌≡◌, ℕ, zero, suc, ◌+◌, ◌*◌, ◌/◌, ◌%◌, ◌<◌, ◌≤◌, List, [], ◌∷◌, ◌++◌, length, drop, ap}
use Rattle.std.proofs.Common.{refl, ◌∙◌, arith, Bool, not, get_or, w8, Fits, map, min, inl, inr}
use Rattle.std.specs.Prelude.{Some}
use Rattle.std.specs.List.{prefix_len, position_from, position_or_len}
use Rattle.std.proofs.lemmas.Bool.{cases_lt}
use Rattle.std.proofs.lemmas.Bool.Decides.{nat_tests}
use Rattle.std.proofs.lemmas.Grind.{common_steps}
use Rattle.std.proofs.lemmas.List.Folds.{prefix_len-append}
use Rattle.std.proofs.lemmas.List.Sums.{prefix_len-le-length}
use lib.Count.{count_trailing_zeros}
use lib.Lanes.{number_l, digits_l, Each1, chunk, mask_l}
use Rattle.std.proofs.lemmas.Simd.{chunk-drop, length-chunk, chunk-fits, below_from_Fits, leading_from_mask_l}
use Rattle.std.proofs.lemmas.Simd.{trailing_mask_l}
use Rattle.uefi_base.specs.Unaligned.{units_of}
use Rattle.uefi_base.proofs.UnitsOfBytes.{half_as_many_units}
use Rattle.uefi_base.proofs.UnitsBack.{units_read_back}
use Rattle.uefi_records.proofs.file.FirstZero.{position_is}

-- The digits to base 65536 of a number whose digits to base 256 are 2 n bytes are their units.
pub lanes_are_units : (n : ℕ) (bytes : List ℕ) → length bytes ≡ 2 * n → Each1 (λ x. x < 256) bytes
    → digits_l 65536 n (number_l 256 bytes) ≡ units_of bytes
lanes_are_units zero [] sized small = refl
lanes_are_units zero (low ∷ bytes) sized small = absurd (omega arith)
lanes_are_units (suc n) [] sized small = absurd (omega arith)
lanes_are_units (suc n) (low ∷ []) sized small = absurd (omega arith)
lanes_are_units (suc n) (low ∷ high ∷ bytes) sized small =
    let low_small : low < 256 = small.0 in
    let high_small : high < 256 = small.1.0 in
    let others : ℕ = number_l 256 bytes in
    let first : (low + 256 * (high + 256 * others)) % 65536 ≡ low + 256 * high = omega arith in
    let rest : (low + 256 * (high + 256 * others)) / 65536 ≡ others = omega arith in
    rw (first, rest, lanes_are_units n bytes (omega arith) small.1.1)

-- So are those of a block of bytes.
pub block_lanes_are_units : (offset : ℕ) (bytes : List ℕ) → offset + 32 ≤ length bytes
    → ((i : ℕ) → Fits w8 (get_or bytes i 0))
    → digits_l 65536 16 (number_l 256 (chunk offset 32 bytes)) ≡ units_of (chunk offset 32 bytes)
block_lanes_are_units offset bytes room fit =
    lanes_are_units 16 (chunk offset 32 bytes) (length-chunk offset 32 bytes room)
    (below_from_Fits w8 (chunk offset 32 bytes) (chunk-fits w8 offset 32 bytes fit))

-- The trailing zeros of a mask, at most as many as there are lanes, are the lanes before the first that passes.
pub first_set_lane : (p : ℕ → Bool) (lanes : List ℕ) (n : ℕ) → length lanes ≡ n → n ≤ 64
    → min (count_trailing_zeros 64 (mask_l (map p lanes))) n ≡ prefix_len (λ x. not (p x)) lanes
unfolding count_trailing_zeros
first_set_lane p lanes n sized few =
    elim (cases_lt 0 (mask_l (map p lanes))) [
      | inl some ↦
          let first = trailing_mask_l p 64 lanes (omega (arith, sized)) some in
          omega (arith, first, prefix_len-le-length (λ x. not (p x)) lanes, sized)
      | inr none ↦
          let zero : mask_l (map p lanes) ≡ 0 = omega (arith, none) in
          let all : count_trailing_zeros 64 (mask_l (map p lanes)) ≡ 64 = ap (count_trailing_zeros 64) zero in
          omega (arith, all, leading_from_mask_l p lanes zero, sized)
    ]

-- A search passes a list of which no item passes the test.
search_passes : (p : ℕ → Bool) (i : ℕ) (xs ys : List ℕ) → length xs ≤ position_or_len p xs
    → position_from p i (xs ++ ys) ≡ position_from p (i + length xs) ys
search_passes p i xs ys whole =
    let joined = prefix_len-append (λ x. not (p x)) xs ys in
    let most = prefix_len-le-length (λ x. not (p x)) xs in
    let others = position_is p (i + length xs) ys in
    position_is p i (xs ++ ys) ∙ grind (arith, nat_tests, common_steps)

module _ (p : ℕ → Bool) (bytes : List ℕ) (index n run : ℕ) (within : 2 * index + 2 * n ≤ length bytes)
    (counted_run : run ≡ prefix_len (λ x. not (p x)) (units_of (chunk (2 * index) (2 * n) bytes))) where
  abbrev block : List ℕ
  block = chunk (2 * index) (2 * n) bytes

  sized : length block ≡ 2 * n
  sized = length-chunk (2 * index) (2 * n) bytes within

  units : length (units_of block) ≡ n
  units = half_as_many_units block ∙ omega (arith, sized)

  -- The units from the index on are those of a block of n and those behind it.
  abbrev behind : List ℕ
  behind = units_of (drop (2 * (index + n)) bytes)

  split : units_of (drop (2 * index) bytes) ≡ units_of block ++ behind
  split =
      let next : 2 * index + 2 * n ≡ 2 * (index + n) = omega arith in
      ap units_of (chunk-drop (2 * index) (2 * n) bytes)
      ∙ units_read_back.joined block (drop (2 * index + 2 * n) bytes) (omega (arith, sized))
      ∙ ap (λ k. units_of block ++ units_of (drop k bytes)) next

  -- The first unit that meets the test is in the block if the run before it is shorter than the block.
  pub stops_in_block : run < n → position_from p index (units_of (drop (2 * index) bytes)) ≡ Some (index + run)
  stops_in_block shorter =
      ap (position_from p index) split ∙ position_is p index (units_of block ++ behind)
      ∙ grind (arith, nat_tests, common_steps, units, prefix_len-append (λ x. not (p x)) (units_of block) behind)

  -- Else it is behind the block.
  pub passes_block : n ≤ run
      → position_from p index (units_of (drop (2 * index) bytes)) ≡ position_from p (index + n) behind
  passes_block whole =
      ap (position_from p index) split
      ∙ search_passes p index (units_of block) behind (omega (arith, units, counted_run, whole))
      ∙ ap (λ k. position_from p (index + k) behind) units
