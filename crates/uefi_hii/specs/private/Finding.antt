-- A byte that is sought.
use Rattle.std.specs.Prelude.{ℕ, ◌==◌, ◌≡◌, ◌<◌, List, Option, Some, None, MatchOption, length, slice_index, false, if◌then◌else◌, nat_lt}
use Rattle.std.specs.List.{position_or_len, before_first, after_first}
use Rattle.uefi_hii.specs.Pairs.{Pair}

-- The result is the index of the first such byte, if there is one.
abbrev pub FindsFirst : ℕ → List ℕ → Option ℕ → Type 0
FindsFirst byte bytes result =
    MatchOption result (position_or_len (λ c. c == byte) bytes ≡ length bytes)
    (λ index. (index ≡ position_or_len (λ c. c == byte) bytes) × (index < length bytes))

-- No byte before the index is the one that is sought.
abbrev pub IsNotBefore : ℕ → ℕ → List ℕ → Type 0
IsNotBefore byte index bytes = (k : ℕ) → k < index → (slice_index bytes k == byte) ≡ false

-- The bytes before the first such byte, and those after it if there is one.
abbrev pub parts_at : ℕ → List ℕ → Pair
parts_at byte bytes = record {
  key = before_first (λ c. c == byte) bytes;
  value =
      if nat_lt (position_or_len (λ c. c == byte) bytes) (length bytes) then Some (after_first (λ c. c == byte) bytes)
      else None;
}
