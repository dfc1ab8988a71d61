-- Bytes and numbers in hex.
use Rattle.std.specs.Prelude.{ℕ, List, [], ◌∷◌, ◌++◌, flat_map, false, codes}
use Rattle.std.specs.Fmt.{digits}
use Rattle.uefi_base.specs.GuidText.{hex_byte}

-- Two lower case hex digits for each byte, joined.
unfoldable pub hex_of : List ℕ → List ℕ
hex_of bytes = flat_map hex_byte bytes

-- A space, if bytes follow.
unfoldable pub gap_before : List ℕ → List ℕ
gap_before [] = []
gap_before (b ∷ bs) = codes " "

-- A number in lower case hex without leading zeros, `0x0` for zero.
unfoldable pub hex_number : ℕ → List ℕ
hex_number n = codes "0x" ++ digits 16 false n
