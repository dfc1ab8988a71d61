-- How many bytes values have.
use Rattle.std.proofs.Common.{◌≡◌, ◌≤◌, ◌*◌, ℕ, List, [], ◌∷◌, length, take, refl, arith, zero, suc, ap}
use Rattle.std.specs.Int.{bytes_low_first, bytes_high_first, byte_at}
use Rattle.std.proofs.lemmas.List.{length-map}
use Rattle.uefi_path_text.specs.declared.form.shape.Shape.{Shape}
use Rattle.uefi_path_text.specs.parse.Values.{character_units, shape_bytes, offsets}
use Rattle.uefi_path_text.specs.parse.Values.{byte_at as text_byte}
use Rattle.uefi_path_text.proofs.arguments.Pairs.{length-pairs_bytes}

-- A number has the bytes that are asked for.
pub length-bytes_low_first : (i k n : ℕ) → length (bytes_low_first i k n) ≡ k
length-bytes_low_first i zero n = refl
length-bytes_low_first i (suc k) n = ap suc (length-bytes_low_first (suc i) k n)

pub length-bytes_high_first : (k n : ℕ) → length (bytes_high_first k n) ≡ k
length-bytes_high_first zero n = refl
length-bytes_high_first (suc k) n = ap suc (length-bytes_high_first k n)

-- A number's first bytes are those of fewer bytes.
pub take-bytes_low_first : (i j k n : ℕ) → j ≤ k → take j (bytes_low_first i k n) ≡ bytes_low_first i j n
take-bytes_low_first i zero k n few = refl
take-bytes_low_first i (suc j) zero n few = absurd (omega arith)
take-bytes_low_first i (suc j) (suc k) n few = ap (λ (rest : List ℕ). byte_at i n ∷ rest) (take-bytes_low_first (suc i) j k n (omega arith))

-- A unit has two bytes.
pub length-character_units : (text : List ℕ) → length (character_units text) ≡ 2 * length text
length-character_units [] = refl
length-character_units (c ∷ text) = omega (arith, length-character_units text)

-- A shape has a byte for each of its offsets.
pub length-shape_bytes : (shape : Shape) (text : List ℕ) → length (shape_bytes shape text) ≡ length (offsets shape)
unfolding shape_bytes
length-shape_bytes shape text = length-map (offsets shape) (λ offset. text_byte text offset)

-- How many bytes a value has.
pub ruleset lengths = (length-bytes_low_first, length-character_units, length-pairs_bytes, length-shape_bytes)
