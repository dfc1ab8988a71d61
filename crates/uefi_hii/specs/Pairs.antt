-- The pairs of keys and values that a text is cut into (UEFI 2.10, 35.2.1 "String Syntax").
use Rattle.std.specs.Prelude.{ℕ, ◌==◌, Bool, List, [], ◌∷◌, Option, Some, None, map, if◌then◌else◌, length, nat_lt}
use Rattle.std.specs.List.{slice_split, before_first, after_first, position_or_len}

-- A key, and its value if it has one.
pub record Pair : Type 0 where
  pub key : List ℕ
  pub value : Option (List ℕ)

-- The byte of `=`.
abbrev pub is_equals_sign : ℕ → Bool
is_equals_sign c = c == 61

-- Pieces, but for an empty last one.
abbrev pub without_empty_last : List (List ℕ) → List (List ℕ)
without_empty_last [] = []
without_empty_last ([] ∷ []) = []
without_empty_last ((c ∷ piece) ∷ []) = (c ∷ piece) ∷ []
without_empty_last (piece ∷ next ∷ others) = piece ∷ without_empty_last (next ∷ others)

-- A piece is cut at its first equals sign into key and value. Without one it is a key with no value.
abbrev pub pair_of : List ℕ → Pair
pair_of piece = record {
  key = before_first is_equals_sign piece;
  value =
      if nat_lt (position_or_len is_equals_sign piece) (length piece) then Some (after_first is_equals_sign piece) else None;
}

-- The pairs of a text: its pieces between ampersands, which are 38, but for an empty last one, each cut into key and
-- value.
abbrev pub pairs : List ℕ → List Pair
pairs text = map pair_of (without_empty_last (slice_split (λ c. c == 38) text))

-- The byte between pieces, by its name.
abbrev pub ampersand : ℕ
ampersand = 38
