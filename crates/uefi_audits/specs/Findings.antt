-- What is said of each event of a log. Where it is known which PCRs are covered, by a quote or otherwise, nothing is said of events of others.
use Rattle.std.specs.Prelude.{◌≡◌, ◌&&◌, Bool, true, false, List, map, Option, None, Some}
use Rattle.std.specs.List.{All, list_any}
use Rattle.uefi_tcg.specs.Entries.{Entry}
use Rattle.uefi_tcg.specs.v2.Event.{Event}
use Rattle.pcr_replay.specs.Replay.{has_digest}
use Rattle.uefi_audits.specs.Check.{IsChecked}
use Rattle.uefi_audits.specs.verify.Uncompared.{extends}
use Rattle.uefi_audits.specs.declared.check.Checked.{Checked}
use Rattle.uefi_audits.specs.declared.check.Checked.TheVariants.{Matches, MatchesNone, NotInLog}
use Rattle.uefi_audits.specs.declared.verify.named.NamedPcr.{NamedPcr}

-- An event is covered: it extends one of these PCRs, in a bank of which it has a digest. Where none are named, each event is.
abbrev pub is_covered_by : Event → NamedPcr → Bool
is_covered_by event it = extends it.pcr event && has_digest it.bank event

unfoldable pub is_covered : Option (List NamedPcr) → Event → Bool
is_covered None event = true
is_covered (Some pcrs) event = list_any (is_covered_by event) pcrs

-- An event of a log, and what is said of it, if it is covered.
pub record Finding : Type 0 where
  pub entry : Entry
  pub checked : Option Checked

-- What is said of an event, by whether it is covered.
unfoldable pub IsFound : Bool → Event → Option Checked → Type 0
IsFound true event None = ⊥
IsFound true event (Some checked) = IsChecked event checked
IsFound false event checked = checked ≡ None

-- What is said of each event of a log, in order.
pub record AreFindings (covered : Option (List NamedPcr)) (entries : List Entry) (findings : List Finding) : Type 0 where
  pub of_each : map (λ it. it.entry) findings ≡ entries
  pub each_is : All (λ it. IsFound (is_covered covered it.entry.event) it.entry.event it.checked) findings

-- What is said of an event, by the kind.
abbrev pub is_match : Option Checked → Bool
is_match (Some (Matches form)) = true
is_match (Some MatchesNone) = false
is_match (Some NotInLog) = false
is_match None = false

abbrev pub is_mismatch : Option Checked → Bool
is_mismatch (Some (Matches form)) = false
is_mismatch (Some MatchesNone) = true
is_mismatch (Some NotInLog) = false
is_mismatch None = false

abbrev pub is_outside : Option Checked → Bool
is_outside (Some (Matches form)) = false
is_outside (Some MatchesNone) = false
is_outside (Some NotInLog) = true
is_outside None = false

abbrev pub is_uncovered : Option Checked → Bool
is_uncovered (Some (Matches form)) = false
is_uncovered (Some MatchesNone) = false
is_uncovered (Some NotInLog) = false
is_uncovered None = true
