-- What contracts see of the values of arguments.
use Rattle.std.specs.Prelude.{ℕ, ◌≡◌, ◌≤◌, ◌<◌, ◌+◌, ◌^◌, List, [], ◌∷◌, ◌++◌, replicate, IsTrue, Option, Some, None, length, Bool, ◌&&◌, nat_lt, if◌then◌else◌}
use Rattle.std.specs.Borrow.{Bor}
use Rattle.std.specs.Int.{bytes_high_first}
use Rattle.uefi_path_text.specs.parse.Parts.{cut_at}
use Rattle.uefi_path_text.specs.parse.Values.{low_first, shape_bytes, pairs_bytes, character_units, has_pattern, pattern, are_pairs, is_eisa_letter, is_hex_digit}
use Rattle.uefi_path_text.specs.declared.parse.value.Value.{Value}
use Rattle.uefi_path_text.specs.declared.parse.value.Value.TheVariants.{Number, BigEndian, Digits, Pairs, Ipv4, Ipv4Server, Ipv6, Text, Units}

-- The bytes of the value.
abbrev pub value_bytes : Value → List ℕ
value_bytes (Number number size) = low_first size number
value_bytes (BigEndian number) = bytes_high_first 8 number
value_bytes (Digits shape text) = shape_bytes shape text.now
value_bytes (Pairs text) = pairs_bytes text.now
value_bytes (Ipv4 address) = address
value_bytes (Ipv4Server address) = address ++ replicate 12 0
value_bytes (Ipv6 address) = address
value_bytes (Text text) = text.now
value_bytes (Units text) = character_units text.now

-- The value has its form.
abbrev pub IsValue : Value → Type 0
IsValue (Number number size) = size ≤ 8
IsValue (BigEndian number) = Unit
IsValue (Digits shape text) = IsTrue (has_pattern (pattern shape) text.now)
IsValue (Pairs text) = IsTrue (are_pairs text.now)
IsValue (Ipv4 address) = length address ≡ 4
IsValue (Ipv4Server address) = length address ≡ 4
IsValue (Ipv6 address) = length address ≡ 16
IsValue (Text text) = Unit
IsValue (Units text) = length text.now < 2 ^ 63

-- A compressed EISA identifier may have the character at the offset.
abbrev pub fits_eisa : ℕ → ℕ → Bool
fits_eisa offset c = if nat_lt offset 3 then is_eisa_letter c else nat_lt offset 7 && is_hex_digit c

-- The part of a text before the first mark, and what follows the mark.
abbrev pub rest_parts : ℕ → Option (Bor (List ℕ)) → List (List ℕ)
rest_parts mark None = []
rest_parts mark (Some rest) = cut_at mark rest.now

abbrev pub rest_length : Option (Bor (List ℕ)) → ℕ
rest_length None = 0
rest_length (Some rest) = 1 + length rest.now

pub record IsCut (mark : ℕ) (text part : List ℕ) (rest : Option (Bor (List ℕ))) : Type 0 where
  pub parts : cut_at mark text ≡ part ∷ rest_parts mark rest
  pub length : length text ≡ length part + rest_length rest

-- The first text, which is empty if there is none, and the others.
abbrev pub first_text : List (List ℕ) → List ℕ
first_text [] = []
first_text (text ∷ texts) = text

abbrev pub other_texts : List (List ℕ) → List (List ℕ)
other_texts [] = []
other_texts (text ∷ texts) = texts
