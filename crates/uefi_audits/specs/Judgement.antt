-- Whether a log can be judged.
use Rattle.std.specs.Prelude.{Bool, true, false, ◌&&◌, not, nat_lt, if◌then◌else◌}
use Rattle.pcr_replay.specs.ReadLogs.{entries_in}
use Rattle.pcr_replay.specs.Replay.{has_measured}
use Rattle.pcr_replay.specs.declared.read_log.ReadLog.{ReadLog}
use Rattle.uefi_audits.specs.Trailing.{trailing_of}
use Rattle.uefi_audits.specs.declared.judgement.Judgement.{Judgement}
use Rattle.uefi_audits.specs.declared.judgement.Judgement.TheVariants.{Accepted, NothingMeasured, LeftOver}

-- It can be: what follows the last event is padding or allowed, and an event extends a PCR.
unfoldable pub judgement_of : {A : Type 0} → Bool → ReadLog A → Judgement
judgement_of allow_left_over read =
    if not allow_left_over && nat_lt 0 (trailing_of read).left_over then LeftOver
    else if has_measured (entries_in read) then Accepted
    else NothingMeasured

-- Whether the events of a log are read.
abbrev pub is_read : Judgement → Bool
is_read Accepted = true
is_read NothingMeasured = true
is_read LeftOver = false
