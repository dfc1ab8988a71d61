-- Names of records: their units, and the bytes that end with them.
use Rattle.std.proofs.Common.{◌≡◌, ℕ, zero, suc, ◌+◌, ◌-◌, ◌<◌, List, [], ◌∷◌, ◌++◌, length, drop, sym, ◌∙◌, ap, subst}
use Rattle.std.proofs.Common.{arith, lit<}
use Rattle.std.proofs.lemmas.Grind.{common_steps}
use Rattle.std.proofs.lemmas.List.{get_or-drop, drop_at, length-append}
use Rattle.uefi_base.specs.LittleEndian.{AreBytes}
use Rattle.uefi_base.specs.Ucs2.{IsUcs2Text}
use Rattle.uefi_base.specs.Unaligned.{AreUnits, units_of, unit_bytes}
use Rattle.uefi_base.proofs.UnitsBack.{units_read_back}
use Rattle.uefi_records.specs.file.Name.{IsName, FitName, units_from, record_end}
use Rattle.uefi_records.specs.private.file.Kept.{EndsWithName}

-- A text is a name.
pub FitName_of_text : (units : List ℕ) → IsUcs2Text units → AreUnits units → FitName units
FitName_of_text units text are_units =
    assumption (λ (k : ℕ) (before : k < length units - 1). (text.characters k before).not_nul)

-- The units of a name are read from the bytes after a header.
pub units_back : (offset : ℕ) (header name : List ℕ) → length header ≡ offset → AreUnits name
    → units_from offset (header ++ unit_bytes name) ≡ name
units_back offset header name sized units = ap units_of (drop_at header (unit_bytes name) offset sized)
    ∙ units_read_back.written name units

-- A header and a name, in bytes: how long they are, and that they end with the name.
pub length-named : (offset : ℕ) (header name : List ℕ) → length header ≡ offset
    → length (header ++ unit_bytes name) ≡ record_end offset (length name)
length-named offset header name sized = length-append header (unit_bytes name)
    ∙ (λ i. sized i + units_read_back.sized name i)

pub ends_with : (offset : ℕ) (header name : List ℕ) → length header ≡ offset → FitName name
    → EndsWithName offset (header ++ unit_bytes name)
ends_with offset header name sized fit =
    let whole : length (header ++ unit_bytes name) ≡ record_end offset (length name) =
    length-named offset header name sized in
    record {
      before = omega (arith, whole);
      whole_units = grind (arith, common_steps, whole);
      name = subst IsName (sym (units_back offset header name sized fit.are_units)) fit.is_name;
    }

-- The units of bytes are units, and those behind the offset of a name are the name.
AreUnits-units_of : (bytes : List ℕ) → AreBytes bytes → AreUnits (units_of bytes)
AreUnits-units_of [] each k = lit< tt
AreUnits-units_of (low ∷ []) each k = lit< tt
AreUnits-units_of (low ∷ high ∷ rest) each zero = omega (arith, each 0, each 1)
AreUnits-units_of (low ∷ high ∷ rest) each (suc k) = AreUnits-units_of rest (λ i. each (suc (suc i))) k

pub FitName_from : (offset : ℕ) (bytes : List ℕ) → EndsWithName offset bytes → AreBytes bytes
    → FitName (units_from offset bytes)
FitName_from offset bytes named small =
    record {
      is_name = named.name;
      are_units = AreUnits-units_of (drop offset bytes) (λ k. rw get_or-drop (small (offset + k)));
    }
