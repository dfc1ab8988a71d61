-- Serial numbers.
use Rattle.std.specs.Prelude.{ℕ, ◌==◌, ◌&&◌, Bool, not, List}
use Rattle.std.specs.List.{list_all}
use Rattle.uefi_path_text.specs.text.Arguments.{is_argument_character}

-- A unit that a serial number may have: an argument may have it, and it isn't a quote.
abbrev pub is_serial_character : ℕ → Bool
is_serial_character unit = is_argument_character unit && not (unit == 0x22)

abbrev pub is_serial_number : List ℕ → Bool
is_serial_number serial = list_all is_serial_character serial
