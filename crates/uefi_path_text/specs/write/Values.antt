-- The text of an argument's value, and which values have one (UEFI 2.10, 10.6.1.6).
use Rattle.std.specs.Prelude.{ℕ, ◌+◌, ◌*◌, ◌/◌, ◌%◌, ◌==◌, ◌&&◌, ◌||◌, Bool, true, false, not, nat_le, nat_lt, List, [], ◌∷◌, ◌++◌, codes, length, drop, replicate}
use Rattle.std.specs.Prelude.{Option, Some, None, if◌then◌else◌}
use Rattle.std.specs.List.{find}
use Rattle.std.specs.Str.{bytes_eq}
use Rattle.std.specs.Fmt.{decimal}
use Rattle.uefi_path_text.specs.form.Pieces.{pieces, pieces_text, ipv6_pieces, shape_size}
use Rattle.uefi_path_text.specs.form.Words.{words}
use Rattle.uefi_path_text.specs.text.Arguments.{hex, long_hex, hex_byte, hex_bytes, ipv4_address, is_argument}
use Rattle.uefi_path_text.specs.text.EisaId.{eisa_id}
use Rattle.uefi_path_text.specs.text.SerialNumber.{is_serial_character}
use Rattle.uefi_path_text.specs.parse.Values.{size_bytes}
use Rattle.uefi_path_text.specs.declared.form.words.Words.{Words}
use Rattle.uefi_path_text.specs.declared.form.words.Words.TheVariants.{Protocol, Default, BootDevice}
use Rattle.uefi_path_text.specs.declared.form.argument.Base.{Base}
use Rattle.uefi_path_text.specs.declared.form.argument.Base.TheVariants.{Hex, LongHex, Decimal}
use Rattle.uefi_path_text.specs.declared.form.argument.Argument.{Argument}
use Rattle.uefi_path_text.specs.declared.form.argument.Argument.TheVariants.{Number, BigEndian, Word, Digits, Bytes, HardwareAddress, Ipv4, Ipv4Server, Ipv6, EisaId, PnpId, EisaLetters, DriveBay, Text, Name, Quoted}

-- The number in bytes, the lowest first.
abbrev pub low_number : List ℕ → ℕ
low_number [] = 0
low_number (b ∷ more) = b + 256 * low_number more

-- The bytes in hex digits, the last byte first.
abbrev pub reversed_hex : List ℕ → List ℕ
reversed_hex [] = []
reversed_hex (b ∷ more) = reversed_hex more ++ hex_byte b

-- A number.
abbrev pub number_text : Base → List ℕ → List ℕ
number_text Hex value = hex (low_number value)
number_text LongHex value = codes "0x" ++ reversed_hex value
number_text Decimal value = decimal (low_number value)

-- The first word for a number; else the number, in the place of some words.
abbrev pub word_for : Words → ℕ → Option (List ℕ × ℕ)
word_for vocabulary number = find (λ word. word.1 == number) (words vocabulary)

abbrev pub writes_numbers : Words → Bool
writes_numbers Protocol = true
writes_numbers Default = true
writes_numbers BootDevice = true
writes_numbers _ = false

abbrev pub number_base : Words → Base
number_base Default = Decimal
number_base _ = Hex

abbrev pub found_text : Option (List ℕ × ℕ) → List ℕ → List ℕ
found_text (Some word) other = word.0
found_text None other = other

abbrev pub word_text : Words → List ℕ → List ℕ
word_text vocabulary value =
    found_text (word_for vocabulary (low_number value)) (number_text (number_base vocabulary) value)

abbrev pub is_found : Option (List ℕ × ℕ) → Bool
is_found (Some word) = true
is_found None = false

-- A drive bay, from 1 on; 0 if it isn't known.
abbrev pub bay_text : ℕ → List ℕ
bay_text info = if info == 1 then codes "0" else hex (info / 0x100 + 1)

-- The characters of units of two bytes.
abbrev pub unit_characters : List ℕ → List ℕ
unit_characters [] = []
unit_characters (low ∷ []) = []
unit_characters (low ∷ high ∷ units) = low ∷ unit_characters units

abbrev pub are_characters : List ℕ → Bool
are_characters [] = true
are_characters (low ∷ []) = false
are_characters (low ∷ high ∷ units) = high == 0 && (is_serial_character low && are_characters units)

abbrev pub quoted : List ℕ → List ℕ
quoted text = codes "\"" ++ (text ++ codes "\"")

abbrev pub value_text : Argument → List ℕ → List ℕ
value_text (Number size base) value = number_text base value
value_text BigEndian value = long_hex value
value_text (Word vocabulary size) value = word_text vocabulary value
value_text (Digits shape) value = pieces_text value (pieces shape)
value_text (Bytes most) value = hex_bytes value
value_text Ipv4 value = ipv4_address value
value_text HardwareAddress value = hex_bytes value
value_text Ipv4Server value = ipv4_address value
value_text Ipv6 value = pieces_text value ipv6_pieces
value_text EisaId value = eisa_id (low_number value)
value_text PnpId value = eisa_id (low_number value)
value_text EisaLetters value = hex (low_number value)
value_text DriveBay value = bay_text (low_number value)
value_text (Text most) value = value
value_text (Name most) value = value
value_text Quoted value = quoted (unit_characters value)

abbrev pub can_show : Argument → List ℕ → Bool
can_show (Number size base) value = length value == size_bytes size
can_show BigEndian value = length value == 8
can_show (Word vocabulary size) value =
    length value == size_bytes size && (writes_numbers vocabulary || is_found (word_for vocabulary (low_number value)))
can_show (Digits shape) value = length value == shape_size shape
can_show (Bytes most) value = nat_le (length value) most
can_show Ipv4 value = length value == 4
can_show HardwareAddress value = nat_le (length value) 32
can_show Ipv4Server value = length value == 16 && bytes_eq (drop 4 value) (replicate 12 0)
can_show Ipv6 value = length value == 16
can_show EisaId value = length value == 4 && nat_lt (low_number value % 0x10000) 0x8000
can_show PnpId value = length value == 4 && low_number value % 0x10000 == 0x41d0
can_show EisaLetters value = length value == 2 && nat_lt (low_number value) 0x8000
can_show DriveBay value = length value == 2 && (low_number value == 1 || low_number value % 0x100 == 2)
can_show (Text most) value = is_argument value && nat_le (length value) most
can_show (Name most) value = is_argument value && nat_le (length value) most && not (length value == 0)
can_show Quoted value = are_characters value
