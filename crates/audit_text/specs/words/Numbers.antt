-- Numbers of hash algorithms as they are shown.
use Rattle.std.specs.Prelude.{ℕ, List, ◌++◌, codes, nat_lt, false, if◌then◌else◌}
use Rattle.std.specs.Fmt.{digits}

-- A number in hex, in two digits or more.
unfoldable pub hex_text : ℕ → List ℕ
hex_text number = (if nat_lt number 16 then codes "0x0" else codes "0x") ++ digits 16 false number
