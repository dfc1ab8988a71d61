-- The text that bytes are, where all of it prints.
use Rattle.std.specs.Prelude.{ℕ, ◌+◌, ◌%◌, ◌==◌, ◌&&◌, ◌||◌, nat_le, nat_lt, Bool, List, length, encode_utf8, Option, Some, None, if◌then◌else◌}
use Rattle.std.specs.List.{flat_map, list_all}
use Rattle.uefi_base.specs.Unaligned.{units_of}
use Rattle.audit_text.specs.words.Texts.{before_nul, unit_text}

-- A byte of text that prints: of ASCII, or a tab, or the end of a line.
abbrev pub prints : ℕ → Bool
prints byte = (nat_le 0x20 byte && nat_le byte 0x7e) || ((byte == 9) || ((byte == 10) || (byte == 13)))

-- The text before the first NUL of so many characters, if it has more than one, all of it prints, and no more than that NUL follows. One character alone is as likely a number.
unfoldable pub if_printed : List ℕ → ℕ → Option (List ℕ)
if_printed text count =
    if nat_lt 1 (length text) && (nat_le count (length text + 1) && list_all prints text) then Some text else None

-- That of characters of two bytes each, as in UTF-16; and that of characters of one byte each, or else of two.
abbrev pub wide_text : List ℕ → Option (List ℕ)
wide_text bytes =
    if length bytes % 2 == 0 then if_printed (flat_map unit_text (before_nul (units_of bytes))) (length (units_of bytes)) else None

unfoldable pub or_wide : Option (List ℕ) → List ℕ → Option (List ℕ)
or_wide (Some text) bytes = Some text
or_wide None bytes = wide_text bytes

abbrev pub printed_text : List ℕ → Option (List ℕ)
printed_text bytes = or_wide (if_printed (flat_map encode_utf8 (before_nul bytes)) (length bytes)) bytes
