-- A number read byte by byte.
use Rattle.std.proofs.Common.{◌≡◌, ℕ, suc, ◌+◌, ◌*◌, ◌^◌, ◌<◌, ◌≤◌, true, List, ◌∷◌, length, refl, ap, arith, lit≤}
use Rattle.std.proofs.Math.Nat.{pow-le-pow_right}
use Rattle.std.specs.Prelude.{fold}
use Rattle.std.proofs.lemmas.Bool.Decides.{nat_tests}
use Rattle.uefi_hii.specs.Hex.{hex}
use Rattle.uefi_hii.specs.Values.{is_number_length}
use Rattle.uefi_hii.proofs.HexBounds.{first_small}

-- The number that bytes are, the highest first.
abbrev pub big_endian : List ℕ → ℕ
big_endian bytes = fold (λ number byte. number * 256 + byte) 0 bytes

-- The number of the bytes read so far, of which these are left.
pub record HasRead (all left : List ℕ) (so_far : ℕ) : Type 0 where
  pub number : fold (λ n byte. n * 256 + byte) so_far left ≡ big_endian all
  pub size : (k : ℕ) × (k + length left ≡ length all) × (so_far < 256 ^ k)

pub read_none : (all : List ℕ) → HasRead all all 0
read_none all = record { number = refl; size = (0, omega arith, omega arith) }

pub read_more : (all left : List ℕ) (n byte : ℕ) → HasRead all (byte ∷ left) n → byte < 256
    → HasRead all left (n * 256 + byte)
read_more all left n byte read small =
    record { number = read.number; size = (suc read.size.0, omega (arith, read.size.1), omega (arith, read.size.2)) }

at_most_eight : (n : ℕ) → is_number_length n ≡ true → n ≤ 8
at_most_eight n e = grind (arith, nat_tests)

-- A number of 1, 2, 4 or 8 bytes, of which another byte is read, fits 64 bits.
pub next_fits : (text rest left : List ℕ) (n byte : ℕ) → is_number_length (length (hex text)) ≡ true
    → HasRead (hex text) (hex rest) n → hex rest ≡ byte ∷ left → n * 256 + byte < 18446744073709551616
next_fits text rest left n byte size read steps =
    let few : suc read.size.0 ≤ 8 =
    omega (arith, at_most_eight (length (hex text)) size, read.size.1, ap length steps) in
    let fits : 256 ^ suc read.size.0 ≤ 256 ^ 8 = pow-le-pow_right (lit≤ tt) few in
    omega (arith, fits, read.size.2, first_small rest left byte steps)

-- What the reader asks for, step by step.
pub ruleset number_steps = (read_none, read_more, first_small)
