-- Numbers and their bytes.
use Rattle.std.proofs.Common.{◌≡◌, ℕ, zero, suc, ◌+◌, ◌*◌, ◌<◌, ◌≤◌, List, [], ◌∷◌, ◌++◌, length, get_or}
use Rattle.std.proofs.Common.{refl, ◌∙◌, ap, arith, lit<}
use Rattle.std.specs.Int.{w16, w32, w64, from_le_bytes}
use Rattle.std.specs.Prelude.{slice_range}
use Rattle.std.proofs.lemmas.Nat.{le_bytes_2, le_bytes_4, le_bytes_8, from_le_bytes-to_le_bytes_2}
use Rattle.std.proofs.lemmas.Nat.{from_le_bytes-to_le_bytes_4, from_le_bytes-to_le_bytes_8}
use Rattle.std.proofs.lemmas.Grind.{common_steps}
use Rattle.uefi_base.specs.LittleEndian.{AreBytes, u16_at, u16_bytes, u32_at, u32_bytes, u64_at, u64_bytes}
use Rattle.uefi_base.specs.Laws.{WrittenNumbersRead, ReadNumbersWrite, NumbersReadBack}

-- The range that a part of joined bytes takes is the part.
pub range-append : (before part after : List ℕ) (n : ℕ) → length part ≡ n
    → slice_range (before ++ part ++ after) (length before) (length before + n) ≡ part
range-append before part after n sized = grind (arith, common_steps)

-- A range of bytes is bytes.
pub AreBytes-range : (bytes : List ℕ) (offset n : ℕ) → AreBytes bytes → (k : ℕ)
    → get_or (slice_range bytes offset n) k 0 < 256
AreBytes-range bytes offset n each k = grind (arith, common_steps, each)

-- A range has the length that it is given, if it is within the bytes.
pub length-range : (bytes : List ℕ) (offset n : ℕ) → offset + n ≤ length bytes
    → length (slice_range bytes offset (offset + n)) ≡ n
length-range bytes offset n within = grind (arith, common_steps)

-- The bytes of a number are the two that it is made of.
pub two_bytes : (low high n : ℕ) → low < 256 → high < 256 → n ≡ low + high * 256 → u16_bytes n ≡ low ∷ high ∷ []
two_bytes low high n low_fits high_fits made = le_bytes_2 (low ∷ high ∷ []) n refl both_fit (omega (arith, made))
  where
    both_fit : (i : ℕ) → get_or (low ∷ high ∷ []) i 0 < 256
    both_fit zero = low_fits
    both_fit (suc zero) = high_fits
    both_fit (suc (suc i)) = lit< tt

-- Numbers read back, as the law states it.
pub numbers_read_back : NumbersReadBack
numbers_read_back = record { written = written; read = read }
  where
    written : WrittenNumbersRead
    written = record {
      u16 = λ before after n small. ap (from_le_bytes w16) (range-append before (u16_bytes n) after 2 refl)
          ∙ from_le_bytes-to_le_bytes_2 n small;
      u32 = λ before after n small. ap (from_le_bytes w32) (range-append before (u32_bytes n) after 4 refl)
          ∙ from_le_bytes-to_le_bytes_4 n small;
      u64 = λ before after n small. ap (from_le_bytes w64) (range-append before (u64_bytes n) after 8 refl)
          ∙ from_le_bytes-to_le_bytes_8 n small;
    }

    read : ReadNumbersWrite
    read = record {
      u16 = λ bytes offset each within. le_bytes_2 (slice_range bytes offset (offset + 2)) (u16_at bytes offset)
          (length-range bytes offset 2 within) (AreBytes-range bytes offset (offset + 2) each) refl;
      u32 = λ bytes offset each within. le_bytes_4 (slice_range bytes offset (offset + 4)) (u32_at bytes offset)
          (length-range bytes offset 4 within) (AreBytes-range bytes offset (offset + 4) each) refl;
      u64 = λ bytes offset each within. le_bytes_8 (slice_range bytes offset (offset + 8)) (u64_at bytes offset)
          (length-range bytes offset 8 within) (AreBytes-range bytes offset (offset + 8) each) refl;
    }
