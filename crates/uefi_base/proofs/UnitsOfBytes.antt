-- The units of bytes, by their indices.
use Rattle.std.proofs.Common.{◌≡◌, ℕ, zero, suc, ◌+◌, ◌*◌, ◌/◌, ◌<◌, List, [], ◌∷◌, length, get_or, take, drop, refl}
use Rattle.std.proofs.Common.{ap, arith}
use Rattle.std.proofs.lemmas.Grind.{common_steps}
use Rattle.uefi_base.specs.LittleEndian.{u16_at}
use Rattle.uefi_base.specs.Unaligned.{units_of}
use Rattle.uefi_base.specs.Laws.{UnitsByPlace}

-- There are half as many units as bytes.
pub half_as_many_units : (bytes : List ℕ) → length (units_of bytes) ≡ length bytes / 2
half_as_many_units [] = refl
half_as_many_units (low ∷ []) = refl
half_as_many_units (low ∷ high ∷ rest) = let counted = half_as_many_units rest in omega arith

-- Twice the successor of k.
twice : (k : ℕ) → 2 * suc k ≡ suc (suc (2 * k))
twice k = omega arith

-- A number of two bytes is the low byte and 256 times the high one.
two_bytes : (bytes : List ℕ) (offset : ℕ)
    → u16_at bytes offset ≡ get_or bytes offset 0 + 256 * get_or bytes (offset + 1) 0
two_bytes bytes offset = grind (arith, common_steps)

-- A unit is the low byte and 256 times the high one at twice its index.
two_bytes_of_unit : (bytes : List ℕ) (k : ℕ) → k < length (units_of bytes)
    → get_or (units_of bytes) k 0 ≡ get_or bytes (2 * k) 0 + 256 * get_or bytes (suc (2 * k)) 0
two_bytes_of_unit [] k within = absurd (omega arith)
two_bytes_of_unit (low ∷ []) k within = absurd (omega arith)
two_bytes_of_unit (low ∷ high ∷ rest) zero within = refl
two_bytes_of_unit (low ∷ high ∷ rest) (suc k) within = rw (twice k) (two_bytes_of_unit rest k (omega arith))

-- A unit is the number at twice its index.
pub unit_at : (bytes : List ℕ) (k : ℕ) → k < length (units_of bytes)
    → get_or (units_of bytes) k 0 ≡ u16_at bytes (2 * k)
unit_at bytes k within = grind (arith, two_bytes_of_unit bytes k within, two_bytes bytes (2 * k))

-- The units of the first 2 k bytes are the first k units.
units_of-take : (bytes : List ℕ) (k : ℕ) → units_of (take (2 * k) bytes) ≡ take k (units_of bytes)
units_of-take bytes zero = refl
units_of-take [] (suc k) = rw (twice k)
units_of-take (low ∷ []) (suc k) = rw (twice k)
units_of-take (low ∷ high ∷ rest) (suc k) =
    rw (twice k) (ap (λ units. (low + 256 * high) ∷ units) (units_of-take rest k))

-- The units of the bytes after them are the other units.
units_of-drop : (bytes : List ℕ) (k : ℕ) → units_of (drop (2 * k) bytes) ≡ drop k (units_of bytes)
units_of-drop bytes zero = refl
units_of-drop [] (suc k) = rw (twice k)
units_of-drop (low ∷ []) (suc k) = rw (twice k)
units_of-drop (low ∷ high ∷ rest) (suc k) = rw (twice k) (units_of-drop rest k)

-- All of this, as the law states it.
pub units_by_place : UnitsByPlace
units_by_place = assumption (half_as_many_units, unit_at, units_of-take, units_of-drop)
