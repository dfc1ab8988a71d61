-- Which PCRs the option `--pcrs` selects: `0-7,14` in all banks, `sha256:0,7` in one, `sha1:0+sha256:0,7` in two.
use Rattle.std.specs.Prelude.{ℕ, ◌≡◌, ◌==◌, ◌⊎◌, ◌-◌, ◌≤◌, ◌<◌, ◌&&◌, ◌||◌, nat_le, Bool, true, false, if◌then◌else◌}
use Rattle.std.specs.Prelude.{List, [], ◌∷◌, ◌++◌, length, slice_index_or, Option, None, Some}
use Rattle.std.specs.List.{list_any}
use Rattle.pcr_replay.specs.declared.bank.Bank.{Bank}
use Rattle.pcr_replay.specs.Replay.{pcr_count}
use Rattle.uefi_audits.specs.Naming.{bank_name}
use Rattle.uefi_audits.specs.declared.verify.held.HeldPcr.{HeldPcr}
use Rattle.uefi_audits.specs.declared.verify.selection.PcrSelection.{PcrSelection}
use Rattle.uefi_audits.specs.declared.verify.selection.Range.{Range}
use Rattle.uefi_audits.specs.verify.Banks.{is_same_bank}
use Rattle.uefi_audits.specs.verify.Reading.{Lacks, is_digit, two_digits}

-- A number of one digit or two.
unfoldable pub number_of : List ℕ → Option ℕ
number_of (ones ∷ []) = if is_digit ones then Some (ones - 48) else None
number_of (tens ∷ ones ∷ []) = two_digits tens ones
number_of text = None

-- It is that of a PCR.
pub record IsPcrNumber (text : List ℕ) (pcr : ℕ) : Type 0 where
  pub number : number_of text ≡ Some pcr
  pub within : pcr < pcr_count

-- The text is cut at the first byte of this value.
pub record IsCut (byte : ℕ) (text front back : List ℕ) : Type 0 where
  pub parts : text ≡ front ++ byte ∷ back
  pub first : Lacks byte front

-- An item is the number of a PCR; or those of two, the second not below the first, with a `-` between them.
pub record AreFromTo (text : List ℕ) (range : Range) : Type 0 where
  pub front : List ℕ
  pub back : List ℕ
  pub cut : IsCut 45 text front back
  pub is_first : IsPcrNumber front range.first
  pub is_last : IsPcrNumber back range.last
  pub ascend : range.first ≤ range.last

abbrev pub IsItem : List ℕ → Range → Type 0
IsItem text range = (Lacks 45 text × IsPcrNumber text range.first × (range.last ≡ range.first)) ⊎ AreFromTo text range

-- Items, of which there is one at least, are separated by commas.
abbrev pub AreItems : List ℕ → List Range → Type 0
AreItems text [] = ⊥
AreItems text (range ∷ []) = Lacks 44 text × IsItem text range
AreItems text (range ∷ other ∷ ranges) =
    (front : List ℕ) × (back : List ℕ) × IsCut 44 text front back × IsItem front range × AreItems back (other ∷ ranges)

-- A selection is items, after a bank's name and a colon or without.
abbrev pub IsSelection : List ℕ → Option Bank → List Range → Type 0
IsSelection text None ranges = Lacks 58 text × AreItems text ranges
IsSelection text (Some bank) ranges = (back : List ℕ) × IsCut 58 text (bank_name bank) back × AreItems back ranges

-- Whether it is of a bank, and whether it names a PCR.
abbrev pub is_of_bank : Option Bank → Bank → Bool
is_of_bank None bank = true
is_of_bank (Some only) bank = is_same_bank only bank

abbrev pub is_in : ℕ → Range → Bool
is_in pcr range = nat_le range.first pcr && nat_le pcr range.last

abbrev pub is_named : List Range → ℕ → Bool
is_named ranges pcr = list_any (is_in pcr) ranges

-- Which PCRs a value of the code selects.
abbrev pub selects : PcrSelection → Bank → ℕ → Bool
selects selection bank pcr = is_of_bank selection.bank bank && slice_index_or selection.pcrs pcr false

-- One of them selects a PCR that a TPM held. Without selections each is selected.
abbrev pub one_selects : List PcrSelection → HeldPcr → Bool
one_selects selections held = list_any (λ selection. selects selection held.bank held.pcr) selections

abbrev pub is_selected : List PcrSelection → HeldPcr → Bool
is_selected selections held = (length selections == 0) || one_selects selections held

-- It selects those that the text names.
pub record Selects (text : List ℕ) (selection : PcrSelection) : Type 0 where
  pub bank : Option Bank
  pub ranges : List Range
  pub is_selection : IsSelection text bank ranges
  pub selected : (of : Bank) (pcr : ℕ) → selects selection of pcr ≡ (is_of_bank bank of && is_named ranges pcr)

-- Selections, of which there is one at least, are joined by plus signs.
abbrev pub AreSelections : List ℕ → List PcrSelection → Type 0
AreSelections text [] = ⊥
AreSelections text (selection ∷ []) = Lacks 43 text × Selects text selection
AreSelections text (selection ∷ other ∷ selections) =
    (front : List ℕ) × (back : List ℕ) × IsCut 43 text front back × Selects front selection
    × AreSelections back (other ∷ selections)
