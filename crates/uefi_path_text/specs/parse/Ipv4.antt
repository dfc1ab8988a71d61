-- The text of an IPv4 address.
use Rattle.std.specs.Prelude.{ℕ, ◌==◌, ◌&&◌, Bool, nat_lt, List, length, map}
use Rattle.std.specs.List.{list_all}
use Rattle.std.specs.Str.Parse.{digits_value}
use Rattle.uefi_path_text.specs.parse.Parts.{is_numeral, cut_at}

-- An IPv4 address: four decimal numbers.
abbrev pub is_octet : List ℕ → Bool
is_octet part = is_numeral 10 part && nat_lt (digits_value 10 part) 256

abbrev pub is_ipv4 : List ℕ → Bool
is_ipv4 text = length (cut_at 0x2e text) == 4 && list_all is_octet (cut_at 0x2e text)

abbrev pub ipv4_bytes : List ℕ → List ℕ
ipv4_bytes text = map (digits_value 10) (cut_at 0x2e text)
