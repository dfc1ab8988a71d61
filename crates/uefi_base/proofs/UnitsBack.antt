-- Units and their bytes.
use Rattle.std.proofs.Common.{◌≡◌, ℕ, suc, ◌+◌, ◌*◌, ◌%◌, List, [], ◌∷◌, ◌++◌, length, get_or, refl, ◌∙◌, ap, arith}
use Rattle.std.specs.Int.{w16, from_le_bytes}
use Rattle.std.proofs.lemmas.Nat.{from_le_bytes-to_le_bytes_2}
use Rattle.uefi_base.specs.LittleEndian.{AreBytes, u16_bytes}
use Rattle.uefi_base.specs.Unaligned.{AreUnits, units_of, unit_bytes}
use Rattle.uefi_base.specs.Laws.{UnitsReadBack}
use Rattle.uefi_base.proofs.NumbersBack.{two_bytes}

-- Units read back, as the law states it.
pub units_read_back : UnitsReadBack
units_read_back = record { written = written; read = read; sized = sized; joined = joined }
  where
    written : (us : List ℕ) → AreUnits us → units_of (unit_bytes us) ≡ us
    written [] fit = refl
    written (u ∷ us) fit =
        let first : from_le_bytes w16 (u16_bytes u) ≡ u = from_le_bytes-to_le_bytes_2 u (fit 0) in
        let here : get_or (u16_bytes u) 0 0 + 256 * get_or (u16_bytes u) 1 0 ≡ u = omega arith in
        ap (λ v. v ∷ units_of (unit_bytes us)) here ∙ ap (λ vs. u ∷ vs) (written us (λ k. fit (suc k)))

    read : (bs : List ℕ) → AreBytes bs → length bs % 2 ≡ 0 → unit_bytes (units_of bs) ≡ bs
    read [] each even = refl
    read (low ∷ []) each even = absurd (omega arith)
    read (low ∷ high ∷ rest) each even =
        ap (λ unit. unit ++ unit_bytes (units_of rest)) (two_bytes low high (low + 256 * high) (each 0) (each 1)
        (omega arith)) ∙ ap (λ r. low ∷ high ∷ r) (read rest (λ k. each (suc (suc k))) (omega arith))

    sized : (us : List ℕ) → length (unit_bytes us) ≡ 2 * length us
    sized [] = refl
    sized (u ∷ us) = let others = sized us in omega arith

    joined : (bytes rest : List ℕ) → length bytes % 2 ≡ 0 → units_of (bytes ++ rest) ≡ units_of bytes ++ units_of rest
    joined [] rest even = refl
    joined (low ∷ []) rest even = absurd (omega arith)
    joined (low ∷ high ∷ bytes) rest even = ap (λ us. (low + 256 * high) ∷ us) (joined bytes rest (omega arith))
