-- What an argument stands for: bytes of the node's data (UEFI 2.10, 10.6.1.6).
use Rattle.std.specs.Prelude.{ℕ, ◌+◌, ◌-◌, ◌*◌, ◌%◌, ◌^◌, ◌==◌, ◌&&◌, ◌||◌, Bool, true, false, nat_le, nat_lt, List, [], ◌∷◌, ◌++◌, codes, length, take, drop, map, slice_index, replicate}
use Rattle.std.specs.Prelude.{Option, Some, None, if◌then◌else◌}
use Rattle.std.specs.List.{list_all, find, flat_map}
use Rattle.std.specs.Option.{option_map}
use Rattle.std.specs.Str.{bytes_eq}
use Rattle.std.specs.Str.Parse.{digits_value}
use Rattle.std.specs.Char.{is_digit, digit_value}
use Rattle.std.specs.Int.{bytes_low_first, bytes_high_first}
use Rattle.uefi_path_text.specs.parse.Parts.{given, numeral}
use Rattle.uefi_path_text.specs.parse.Ipv4.{is_ipv4, ipv4_bytes}
use Rattle.uefi_path_text.specs.parse.Ipv6.{ipv6_in}
use Rattle.uefi_path_text.specs.text.Arguments.{is_argument}
use Rattle.uefi_path_text.specs.text.SerialNumber.{is_serial_number}
use Rattle.uefi_path_text.specs.form.Words.{words, are_numbers}
use Rattle.uefi_path_text.specs.declared.form.size.Size.{Size}
use Rattle.uefi_path_text.specs.declared.form.size.Size.TheVariants.{One, Two, Four, Eight}
use Rattle.uefi_path_text.specs.declared.form.words.Words.{Words}
use Rattle.uefi_path_text.specs.declared.form.shape.Shape.{Shape}
use Rattle.uefi_path_text.specs.declared.form.shape.Shape.TheVariants.{Guid, Eui64, Ieee1394, Address}
use Rattle.uefi_path_text.specs.declared.form.argument.Argument.{Argument}
use Rattle.uefi_path_text.specs.declared.form.argument.Argument.TheVariants.{Number, BigEndian, Word, Digits, Bytes, Ipv4, Ipv4Server, Ipv6, HardwareAddress, EisaId, PnpId, EisaLetters, DriveBay, Text, Name, Quoted}

-- The text starts with `0x` or `0X`.
abbrev pub is_hex : List ℕ → Bool
is_hex text = slice_index text 0 == 0x30 && (slice_index text 1 == 0x78 || slice_index text 1 == 0x58)

-- A number: hex digits after `0x`, or decimal ones.
unfoldable pub number_in : List ℕ → Option ℕ
number_in text = if is_hex text then numeral 16 (drop 2 text) else numeral 10 text

-- The same below a limit.
abbrev pub below : ℕ → Option ℕ → Option ℕ
below limit None = None
below limit (Some number) = given (nat_lt number limit) number

-- How many bytes a number has.
abbrev pub size_bytes : Size → ℕ
size_bytes One = 1
size_bytes Two = 2
size_bytes Four = 4
size_bytes Eight = 8

-- A number in this many bytes, the lowest first.
abbrev pub low_first : ℕ → ℕ → List ℕ
low_first size number = bytes_low_first 0 size number

abbrev pub number_bytes : ℕ → List ℕ → Option (List ℕ)
number_bytes size text = option_map (low_first size) (below (2 ^ (8 * size)) (number_in text))

-- The number of a word, or else a number if one can be in its place.
abbrev pub word_number : Words → List ℕ → Option ℕ
word_number vocabulary text = option_map (λ word. word.1) (find (λ word. bytes_eq word.0 text) (words vocabulary))

abbrev pub or_number : Bool → ℕ → List ℕ → Option ℕ → Option (List ℕ)
or_number is_number size text (Some number) = Some (low_first size number)
or_number true size text None = number_bytes size text
or_number false size text None = None

abbrev pub word_bytes : Words → ℕ → List ℕ → Option (List ℕ)
word_bytes vocabulary size text = or_number (are_numbers vocabulary) size text (word_number vocabulary text)

-- The shape of digits: `x` for a hex digit, and other characters as they are.
abbrev pub pattern : Shape → List ℕ
pattern Guid = codes "xxxxxxxx-xxxx-xxxx-xxxx-xxxxxxxxxxxx"
pattern Eui64 = codes "xx-xx-xx-xx-xx-xx-xx-xx"
pattern Ieee1394 = codes "xxxxxxxxxxxxxxxx"
pattern Address = codes "xxxxxxxxxxxx"

-- Where the digits of each byte are, in the order of the node's data.
abbrev pub offsets : Shape → List ℕ
offsets Guid = 6 ∷ 4 ∷ 2 ∷ 0 ∷ 11 ∷ 9 ∷ 16 ∷ 14 ∷ 19 ∷ 21 ∷ 24 ∷ 26 ∷ 28 ∷ 30 ∷ 32 ∷ 34 ∷ []
offsets Eui64 = 21 ∷ 18 ∷ 15 ∷ 12 ∷ 9 ∷ 6 ∷ 3 ∷ 0 ∷ []
offsets Ieee1394 = 14 ∷ 12 ∷ 10 ∷ 8 ∷ 6 ∷ 4 ∷ 2 ∷ 0 ∷ []
offsets Address = 0 ∷ 2 ∷ 4 ∷ 6 ∷ 8 ∷ 10 ∷ []

abbrev pub is_hex_digit : ℕ → Bool
is_hex_digit c = is_digit c 16

abbrev pub fits_mark : ℕ → ℕ → Bool
fits_mark mark c = if mark == 0x78 then is_hex_digit c else c == mark

abbrev pub has_pattern : List ℕ → List ℕ → Bool
has_pattern [] [] = true
has_pattern [] (c ∷ text) = false
has_pattern (mark ∷ marks) [] = false
has_pattern (mark ∷ marks) (c ∷ text) = fits_mark mark c && has_pattern marks text

-- The byte of two hex digits, and of those at an offset.
abbrev pub byte_of_digits : ℕ → ℕ → ℕ
byte_of_digits high low = 16 * digit_value high + digit_value low

abbrev pub byte_at : List ℕ → ℕ → ℕ
byte_at text offset = byte_of_digits (slice_index text offset) (slice_index text (offset + 1))

unfoldable pub shape_bytes : Shape → List ℕ → List ℕ
shape_bytes shape text = map (byte_at text) (offsets shape)

-- The bytes of digits, two each.
abbrev pub are_pairs : List ℕ → Bool
are_pairs text = length text % 2 == 0 && list_all is_hex_digit text

abbrev pub pairs_bytes : List ℕ → List ℕ
pairs_bytes [] = []
pairs_bytes (high ∷ []) = []
pairs_bytes (high ∷ low ∷ more) = byte_of_digits high low ∷ pairs_bytes more

-- A compressed EISA identifier: three letters of five bits each, `@` to `_`, and four hex digits.
abbrev pub is_eisa_letter : ℕ → Bool
is_eisa_letter c = nat_le 0x40 c && nat_lt c 0x60

abbrev pub is_eisa : List ℕ → Bool
is_eisa text = length text == 7 && list_all is_eisa_letter (take 3 text) && list_all is_hex_digit (drop 3 text)

abbrev pub eisa_number : List ℕ → ℕ
eisa_number text =
    (slice_index text 0 - 0x40) * 0x400 + (slice_index text 1 - 0x40) * 0x20 + (slice_index text 2 - 0x40)
    + digits_value 16 (drop 3 text) * 0x10000

-- What is known of a SAS device by its drive bay: from 1 on, or 0 if that isn't known.
abbrev pub bay_info : ℕ → ℕ
bay_info bay = if bay == 0 then 1 else 2 + (bay - 1) * 0x100

-- A text in quotes.
abbrev pub unquoted : List ℕ → List ℕ
unquoted text = drop 1 (take (length text - 1) text)

abbrev pub is_quoted : List ℕ → Bool
is_quoted text =
    nat_le 2 (length text) && slice_index text 0 == 0x22 && slice_index text (length text - 1) == 0x22
    && is_serial_number (unquoted text)

abbrev pub character_units : List ℕ → List ℕ
character_units text = flat_map (λ c. c ∷ 0 ∷ []) text

-- The bytes that an argument stands for, if its text is one of its kind.
unfoldable pub bytes_in : Argument → List ℕ → Option (List ℕ)
bytes_in (Number size base) text = number_bytes (size_bytes size) text
bytes_in BigEndian text = option_map (λ number. bytes_high_first 8 number) (below (2 ^ 64) (number_in text))
bytes_in (Word vocabulary size) text = word_bytes vocabulary (size_bytes size) text
bytes_in (Digits shape) text = given (has_pattern (pattern shape) text) (shape_bytes shape text)
bytes_in (Bytes most) text = given (are_pairs text && nat_le (length text) (2 * most)) (pairs_bytes text)
bytes_in Ipv4 text = given (is_ipv4 text) (ipv4_bytes text)
bytes_in Ipv4Server text = given (is_ipv4 text) (ipv4_bytes text ++ replicate 12 0)
bytes_in Ipv6 text = ipv6_in text
bytes_in EisaId text = given (is_eisa text) (low_first 4 (eisa_number text))
bytes_in EisaLetters text = number_bytes 2 text
bytes_in DriveBay text = option_map (λ bay. low_first 2 (bay_info bay)) (below 257 (number_in text))
bytes_in HardwareAddress text = given (are_pairs text && nat_le (length text) (2 * 32)) (pairs_bytes text)
bytes_in PnpId text = given (is_eisa text) (low_first 4 (eisa_number text))
bytes_in (Name most) text = given (is_argument text && nat_le (length text) most) text
bytes_in (Text most) text = given (is_argument text && nat_le (length text) most) text
bytes_in Quoted text = given (is_quoted text) (character_units (unquoted text))
