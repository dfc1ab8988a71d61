-- What follows the last event of a log.
use Rattle.std.specs.Prelude.{Bool, ◌==◌, ◌&&◌, length}
use Rattle.uefi_tcg.specs.Logs.{left_over, padding}
use Rattle.pcr_replay.specs.ReadLogs.{contents_in}
use Rattle.pcr_replay.specs.declared.read_log.ReadLog.{ReadLog}
use Rattle.uefi_audits.specs.declared.trailing.Trailing.{Trailing}

-- How many bytes of padding, or how many others, and where they begin.
abbrev pub trailing_of : {A : Type 0} → ReadLog A → Trailing
trailing_of read = record {
  offset = (contents_in read).end;
  padding = length (padding read.log (contents_in read));
  left_over = length (left_over read.log (contents_in read));
}

-- A log is empty: it ends where it begins, and no byte follows.
abbrev pub is_of_empty_log : Trailing → Bool
is_of_empty_log trailing = (trailing.offset == 0) && (trailing.padding == 0) && (trailing.left_over == 0)
