-- What `replay` prints of a log.
use Rattle.std.specs.Prelude.{◌≡◌, ℕ, Bool, true, false, List, [], ◌++◌, codes, flat_map, map, None, Some, if◌then◌else◌}
use Rattle.uefi_tcg.specs.Entries.{Entry}
use Rattle.pcr_replay.specs.ReadLogs.{entries_in}
use Rattle.uefi_audits.specs.Facts.{AreFactsOf}
use Rattle.uefi_audits.specs.Ignored.{has_no_pcr}
use Rattle.uefi_audits.specs.Judgement.{is_read, judgement_of}
use Rattle.uefi_audits.specs.LogReplay.{IsReplayOf, is_undetermined}
use Rattle.pcr_replay.specs.BankReplays.{bank_outcomes_of}
use Rattle.uefi_audits.specs.declared.facts.LogFacts.{LogFacts}
use Rattle.uefi_audits.specs.declared.log_replay.LogReplay.{LogReplay}
use Rattle.uefi_audits.specs.declared.known_start.KnownStart.{KnownStart}
use Rattle.audit_text.specs.json.Replay.{replay_line}
use Rattle.audit_text.specs.text.Pcrs.{bank_lines}
use Rattle.audit_text.specs.text.Remarks.{ignored_line, inactive_line, start_lines, unsupported_line}
use Rattle.audit_text.specs.text.Undetermined.{undetermined_lines}
use Rattle.shown.specs.Name.{shown_name}
use Rattle.uefi_audit.specs.Ends.{worse}
use Rattle.uefi_audit.specs.Judged.{judged_status, judgement_messages}
use Rattle.uefi_audit.specs.Printed.{Printed}
use Rattle.uefi_audit.specs.declared.failure.Status.{Status}
use Rattle.uefi_audit.specs.declared.failure.Status.TheVariants.{Well, Differs, Unjudged}
use Rattle.uefi_audit.specs.declared.log_file.LogFile.{LogFile}
use Rattle.uefi_audit.specs.declared.replay.Asked.{Asked}
use Rattle.uefi_audit.specs.declared.request.Format.{Format}
use Rattle.uefi_audit.specs.declared.request.Format.TheVariants.{Text, Json}

-- The locality that is assumed; of many logs it is said once.
unfoldable pub assumed_lines : Bool → List ℕ → KnownStart → List ℕ
assumed_lines is_one_of_many name start = if is_one_of_many then [] else start_lines name start

-- The messages on a replay: the locality that is assumed, the banks that weren't replayed, the PCRs that are undetermined, and the events without effect.
abbrev pub replay_messages : List ℕ → LogFacts → LogReplay → Bool → List ℕ
replay_messages name facts replay is_one_of_many =
    assumed_lines is_one_of_many name facts.start ++ (flat_map (inactive_line name) replay.inactive.items
    ++ (unsupported_line name replay.unsupported.items
    ++ (flat_map (undetermined_lines name) (map bank_outcomes_of replay.banks.items)
    ++ flat_map (ignored_line name) replay.ignored.items)))

-- The line with a log's name, if it is one of many; and its PCRs as text.
unfoldable pub name_line : Bool → List ℕ → List ℕ
name_line is_one_of_many name = if is_one_of_many then shown_name name ++ codes ":\n" else []

abbrev pub pcrs_text : Bool → List ℕ → LogReplay → List ℕ
pcrs_text is_one_of_many name replay =
    name_line is_one_of_many name ++ flat_map bank_lines (map bank_outcomes_of replay.banks.items)

-- The PCRs in a format.
unfoldable pub replay_text : Format → Bool → List ℕ → LogFacts → LogReplay → List ℕ
replay_text Text is_one_of_many name facts replay = pcrs_text is_one_of_many name replay
replay_text Json is_one_of_many name facts replay = replay_line name facts (Some (map bank_outcomes_of replay.banks.items))

-- The status: no bank was replayed, or a PCR is undetermined; or an event is of a PCR that no TPM has.
abbrev pub replay_status : LogReplay → Status
replay_status replay =
    if is_undetermined replay then Unjudged
    else if has_no_pcr replay.ignored.items then Differs
    else Well

-- What is printed of a replay, after these messages.
abbrev pub replayed : List ℕ → List ℕ → Asked → LogFacts → LogReplay → Printed
replayed before name asked facts replay = record {
  messages = before ++ replay_messages name facts replay asked.is_one_of_many;
  text = replay_text asked.format asked.is_one_of_many name facts replay;
  status = replay_status replay;
}

-- It is that of what these events lead to.
abbrev pub IsReplayed : List ℕ → List ℕ → Asked → LogFacts → List Entry → Printed → Type 0
IsReplayed before name asked facts entries printed =
    (replay : LogReplay) × IsReplayOf facts asked.bank entries replay × (printed ≡ replayed before name asked facts replay)

-- Of a log with trailing bytes that aren't allowed: nothing as text, or an object without PCRs.
unfoldable pub refused_text : Format → List ℕ → LogFacts → List ℕ
refused_text Text name facts = []
refused_text Json name facts = replay_line name facts None

abbrev pub refused : List ℕ → List ℕ → Asked → LogFacts → Printed
refused before name asked facts = record {
  messages = before;
  text = refused_text asked.format name facts;
  status = Unjudged;
}

-- With this status, if nothing is worse.
abbrev pub at_best : Status → Printed → Printed
at_best status printed = record printed { status = worse status printed.status }

-- What is printed, by whether the events are read.
unfoldable pub IsReplayBy : Bool → Status → List ℕ → List ℕ → Asked → LogFacts → List Entry → Printed → Type 0
IsReplayBy true status before name asked facts entries printed =
    (found : Printed) × IsReplayed before name asked facts entries found × (printed ≡ at_best status found)
IsReplayBy false status before name asked facts entries printed = printed ≡ refused before name asked facts

-- What is printed of a log: the messages on it come first.
abbrev pub IsReplayReport : Bool → LogFile → Asked → Printed → Type 0
IsReplayReport allow_left_over file asked printed =
    let judgement = judgement_of allow_left_over file.read in
    (facts : LogFacts) × AreFactsOf asked.locality file.read facts
    × IsReplayBy (is_read judgement) (judged_status judgement) (judgement_messages file judgement) file.name.now asked facts
    (entries_in file.read) printed
