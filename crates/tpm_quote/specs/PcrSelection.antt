-- Selections of PCRs (TPM 2.0 Library, Part 2, TPMS_PCR_SELECTION).
use Rattle.std.specs.Prelude.{ℕ, ◌≡◌, zero, suc, ◌/◌, ◌%◌, ◌<◌, ◌≤◌, ◌^◌, ◌==◌, Bool, IsTrue, List, [], ◌∷◌, ◌++◌, length, filter, slice_index}
use Rattle.std.specs.Int.{bit_at}
use Rattle.std.specs.List.{flat_map, AllByRecursion}
use Rattle.uefi_base.specs.Prefix.{IsPrefix}
use Rattle.tpm_quote.specs.BigEndian.{u16_bytes}

-- A selection: the hash algorithm of a bank, and a bitmap of its PCRs.
pub record PcrSelection : Type 0 where
  pub algorithm : ℕ
  pub bitmap : List ℕ

-- PCR n is bit n % 8 of byte n / 8. A bitmap that ends before it doesn't select it.
abbrev pub is_selected : PcrSelection → ℕ → Bool
is_selected selection pcr = bit_at (slice_index selection.bitmap (pcr / 8)) (pcr % 8) == 1

abbrev pub IsSelected : PcrSelection → ℕ → Type 0
IsSelected selection pcr = IsTrue (is_selected selection pcr)

-- A PC has the PCRs 0 to 23, and this selects one above.
abbrev pub SelectsAbove23 : PcrSelection → Type 0
SelectsAbove23 selection = (pcr : ℕ) × (23 < pcr) × IsSelected selection pcr

-- The byte that has the PCRs 24 to 31, or 0 where the bitmap ends before it.
abbrev pub byte_of_pcr_24 : PcrSelection → ℕ
byte_of_pcr_24 selection = slice_index selection.bitmap 3

-- The algorithm fits two bytes. The bitmap has at most four, and selects no PCR above 23: the fourth is zero.
pub record IsPcrSelection (selection : PcrSelection) : Type 0 where
  pub algorithm : selection.algorithm < 2 ^ 16
  pub short : length selection.bitmap ≤ 4
  pub of_pc : byte_of_pcr_24 selection ≡ 0

-- The layout: the algorithm, the length of the bitmap in one byte, and the bitmap.
unfoldable pub selection_bytes : PcrSelection → List ℕ
selection_bytes selection =
    u16_bytes selection.algorithm ++ (length selection.bitmap ∷ selection.bitmap)

-- The bytes begin with `count` selections, one after another: these.
pub record HasSelections (count : ℕ) (bytes : List ℕ) : Type 0 where
  pub selections : List PcrSelection
  pub each : AllByRecursion IsPcrSelection selections
  pub counted : length selections ≡ count
  pub first : IsPrefix (flat_map selection_bytes selections) bytes

-- This many numbers from the first one on.
unfoldable pub numbers : ℕ → ℕ → List ℕ
numbers first zero = []
numbers first (suc count) = first ∷ numbers (suc first) count

-- The PCRs of a PC that are selected, ascending.
abbrev pub selected_pcrs : PcrSelection → List ℕ
selected_pcrs selection = filter (is_selected selection) (numbers 0 24)
