-- What the value of a pair may be: a number, a GUID or a name (UEFI 2.10, 35.2.1 "String Syntax").
use Rattle.std.specs.Prelude.{ℕ, ◌+◌, ◌*◌, ◌%◌, ◌==◌, ◌&&◌, ◌||◌, not, Bool, true, if◌then◌else◌, List, [], ◌∷◌, Option, Some, None, length, fold, encode_utf8_all}
use Rattle.std.specs.Int.{is_in_range}
use Rattle.std.specs.List.{list_all}
use Rattle.uefi_hii.specs.Hex.{hex}

abbrev pub is_number_length : ℕ → Bool
is_number_length n = n == 1 || n == 2 || n == 4 || n == 8

-- A number has 1, 2, 4 or 8 bytes, the highest first.
abbrev pub number : List ℕ → Option ℕ
number value =
    if is_number_length (length (hex value)) then Some (fold (λ n byte. n * 256 + byte) 0 (hex value)) else None

-- A GUID is its sixteen bytes.
abbrev pub guid : List ℕ → Option (List ℕ)
guid value = if length (hex value) == 16 then Some (hex value) else None

-- The units that bytes are, the high byte of each first. An odd last byte is no unit.
abbrev pub units : List ℕ → List ℕ
units (high ∷ low ∷ bytes) = (high * 256 + low) ∷ units bytes
units _ = []

-- An odd last byte is the first half of a NUL.
abbrev pub is_odd_byte_zero : List ℕ → Bool
is_odd_byte_zero [] = true
is_odd_byte_zero (high ∷ []) = high == 0
is_odd_byte_zero (high ∷ low ∷ bytes) = is_odd_byte_zero bytes

-- A unit of a name is neither zero nor a surrogate.
abbrev pub is_name_unit : ℕ → Bool
is_name_unit unit = not (unit == 0) && not (is_in_range 0xd800 0xdfff unit)

-- A name is the text, in UTF-8, of the units that its value spells. The value has an even number of bytes.
abbrev pub name : List ℕ → Option (List ℕ)
name value =
    if length value % 2 == 0 && is_odd_byte_zero (hex value) && list_all is_name_unit (units (hex value))
    then Some (encode_utf8_all (units (hex value))) else None
