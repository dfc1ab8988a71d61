-- What is found of the events of a log: those that match in none of the forms of their types, those that are out of place, and how many events of each type match.
use Rattle.std.specs.Prelude.{ℕ, ◌≡◌, ◌==◌, ◌&&◌, ◌↔◌, Bool, false, List, [], ◌∷◌, map, Option, None, Some, if◌then◌else◌}
use Rattle.std.specs.List.{Contains, count_by}
use Rattle.std.specs.List.Sorted.{IsStrictlyIncreasing}
use Rattle.uefi_tcg.specs.Entries.{Entry}
use Rattle.uefi_tcg.specs.LogViews.{entry_of}
use Rattle.uefi_audits.specs.Findings.{AreFindings, Finding, is_match, is_mismatch, is_outside, is_uncovered}
use Rattle.uefi_audits.specs.OutOfPlace.{remarks_in, remarks_of}
use Rattle.uefi_audits.specs.Numbered.{numbered}
use Rattle.uefi_audits.specs.declared.check.Checked.{Checked}
use Rattle.uefi_audits.specs.declared.check.Checked.TheVariants.{Matches, MatchesNone, NotInLog}
use Rattle.uefi_audits.specs.declared.check.form.Form.{Form}
use Rattle.uefi_audits.specs.declared.check.form.Form.TheVariants.{Data, VariableValue, WithoutNul, WithNul, Command, Narrowed}
use Rattle.uefi_audits.specs.declared.check.counts.TypeCounts.{TypeCounts}
use Rattle.uefi_audits.specs.declared.check.result.CheckResult.{CheckResult}
use Rattle.uefi_audits.specs.declared.check.result.Mismatch.{Mismatch}
use Rattle.uefi_audits.specs.declared.verify.named.NamedPcr.{NamedPcr}

-- The forms in order, and the index of each.
abbrev pub all_forms : List Form
all_forms = Data ∷ VariableValue ∷ WithoutNul ∷ WithNul ∷ Command ∷ Narrowed ∷ []

abbrev pub form_index : Form → ℕ
form_index Data = 0
form_index VariableValue = 1
form_index WithoutNul = 2
form_index WithNul = 3
form_index Command = 4
form_index Narrowed = 5

-- A match in the form with this index.
abbrev pub is_match_at : ℕ → Option Checked → Bool
is_match_at index (Some (Matches form)) = form_index form == index
is_match_at index (Some MatchesNone) = false
is_match_at index (Some NotInLog) = false
is_match_at index None = false

abbrev pub is_match_in : Form → Option Checked → Bool
is_match_in form = is_match_at (form_index form)

-- An event that matches in none of the forms of its type, with its index in the log.
pub record Mismatched : Type 0 where
  pub index : ℕ
  pub entry : Entry

unfoldable pub if_mismatch : ℕ → Finding → List Mismatched
if_mismatch index it = if is_mismatch it.checked then record { index = index; entry = it.entry } ∷ [] else []

-- All such events, in order.
abbrev pub mismatches_in : List Finding → List Mismatched
mismatches_in findings = numbered if_mismatch 0 findings

-- The number of the event's type.
abbrev pub type_of : Finding → ℕ
type_of it = it.entry.event.event_type

-- Of how many events of a type this is said.
unfoldable pub how_many : (Option Checked → Bool) → ℕ → List Finding → ℕ
how_many is_said number findings = count_by (λ it. (number == type_of it) && is_said it.checked) findings

-- The counts of a type.
abbrev pub counts_in : List Finding → ℕ → TypeCounts
counts_in findings number = record {
  event_type = record { 0 = number };
  matches = how_many is_match number findings;
  by_form = map (λ form. how_many (is_match_in form) number findings) all_forms;
  matches_none = how_many is_mismatch number findings;
  not_in_log = how_many is_outside number findings;
  not_covered = how_many is_uncovered number findings;
}

-- The counts of each type of which there is an event, in the order of the types' numbers.
pub record AreCounts (findings : List Finding) (counts : List TypeCounts) : Type 0 where
  pub numbers : List ℕ
  pub in_order : IsStrictlyIncreasing numbers
  pub of_each : (number : ℕ) → Contains numbers number ↔ Contains (map type_of findings) number
  pub each_is : counts ≡ map (counts_in findings) numbers

-- What a value of the code stands for.
abbrev pub mismatch_of : Mismatch → Mismatched
mismatch_of found = record { index = found.index; entry = entry_of found.entry }

-- What is found of the events of a log, where these PCRs are covered.
pub record IsCheckResult {A : Type 0} (covered : Option (List NamedPcr)) (entries : List Entry) (result : CheckResult A)
    : Type 0 where
  pub findings : List Finding
  pub found : AreFindings covered entries findings
  pub mismatches : map mismatch_of result.mismatches.items ≡ mismatches_in findings
  pub remarks : remarks_of result.remarks ≡ remarks_in findings
  pub types : AreCounts findings result.types.items
