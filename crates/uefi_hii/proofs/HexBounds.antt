-- Bytes that hex spells are below 256.
use Rattle.std.proofs.Common.{◌≡◌, ℕ, zero, suc, ◌<◌, List, [], ◌∷◌, get_or, arith, lit<}
use Rattle.std.specs.Prelude.{unwrap_or}
use Rattle.std.proofs.lemmas.Bool.Decides.{nat_tests}
use Rattle.uefi_hii.specs.Hex.{byte_of_one, byte_of_two, hex, hex_digit, two_digits}

-- A digit is below 16.
pub hex_digit_small : (c : ℕ) → unwrap_or (hex_digit c) 0 < 16
unfolding hex_digit
hex_digit_small c = grind (arith, nat_tests)

-- So is a byte below 256 that two characters spell.
byte_of_two_small : (c d : ℕ) → byte_of_two c d < 256
unfolding byte_of_two two_digits byte_of_one
byte_of_two_small c d = grind (arith, hex_digit_small c, hex_digit_small d)

-- All bytes of a text are.
pub hex_small : (text : List ℕ) (i : ℕ) → get_or (hex text) i 0 < 256
unfolding byte_of_one
hex_small [] i = lit< tt
hex_small (c ∷ []) zero = omega (arith, hex_digit_small c)
hex_small (c ∷ []) (suc i) = lit< tt
hex_small (c ∷ d ∷ text) zero = byte_of_two_small c d
hex_small (c ∷ d ∷ text) (suc i) = hex_small text i

-- So is the first of them.
pub first_small : (text rest : List ℕ) (byte : ℕ) → hex text ≡ byte ∷ rest → byte < 256
first_small text rest byte e = rw e at (hex_small text 0)
