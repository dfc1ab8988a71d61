-- How the counts of types grow by one event.
use Rattle.std.specs.Prelude.{ℕ, ◌≡◌, ◌+◌, ◌<◌, ◌^◌, List, [], ◌∷◌, slice_index, slice_set, Option, None, Some, unwrap_or}
use Rattle.std.specs.BTreeMap.{BTreeMap, get}
use Rattle.std.specs.Ordering.{nat_cmp}
use Rattle.uefi_tcg.specs.LogViews.{entry_of}
use Rattle.uefi_audits.specs.declared.check.Checked.{Checked}
use Rattle.uefi_audits.specs.declared.check.Checked.TheVariants.{Matches, MatchesNone, NotInLog}
use Rattle.uefi_audits.specs.declared.check.counts.TypeCounts.{TypeCounts}
use Rattle.uefi_audits.specs.declared.check.form.Form.{Form}
use Rattle.uefi_audits.specs.declared.check.result.CheckedEntry.{CheckedEntry}
use Rattle.uefi_audits.specs.CheckResult.{form_index}
use Rattle.uefi_audits.specs.Findings.{Finding}

-- What a value of the code stands for.
abbrev pub finding_of : CheckedEntry → Finding
finding_of it = record { entry = entry_of it.entry; checked = it.checked }

-- The counts of a type without an event.
abbrev pub no_counts : ℕ → TypeCounts
no_counts number = record {
  event_type = record { 0 = number };
  matches = 0;
  by_form = 0 ∷ 0 ∷ 0 ∷ 0 ∷ 0 ∷ 0 ∷ [];
  matches_none = 0;
  not_in_log = 0;
  not_covered = 0;
}

-- With one more event.
abbrev pub one_more_at : ℕ → List ℕ → List ℕ
one_more_at index counts = slice_set counts index (slice_index counts index + 1)

abbrev pub counted : Option Checked → TypeCounts → TypeCounts
counted (Some (Matches form)) counts =
    record counts { matches = counts.matches + 1; by_form = one_more_at (form_index form) counts.by_form }
counted (Some MatchesNone) counts = record counts { matches_none = counts.matches_none + 1 }
counted (Some NotInLog) counts = record counts { not_in_log = counts.not_in_log + 1 }
counted None counts = record counts { not_covered = counts.not_covered + 1 }

-- Each count can grow by one.
pub record HasRoom (counts : TypeCounts) : Type 0 where
  pub matches : counts.matches + 1 < 2 ^ 64
  pub by_form : (form : Form) → slice_index counts.by_form (form_index form) + 1 < 2 ^ 64
  pub matches_none : counts.matches_none + 1 < 2 ^ 64
  pub not_in_log : counts.not_in_log + 1 < 2 ^ 64
  pub not_covered : counts.not_covered + 1 < 2 ^ 64

-- The counts of a type so far.
abbrev pub counts_at : BTreeMap ℕ TypeCounts → ℕ → TypeCounts
counts_at types number = unwrap_or (get nat_cmp types number) (no_counts number)

-- A type has one more event, of which this is said. The others keep their counts.
pub record CountsOneMore (old new : BTreeMap ℕ TypeCounts) (number : ℕ) (checked : Option Checked) : Type 0 where
  pub here : get nat_cmp new number ≡ Some (counted checked (counts_at old number))
  pub others : (other : ℕ) → (other ≡ number → ⊥) → get nat_cmp new other ≡ get nat_cmp old other
