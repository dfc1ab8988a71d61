-- Two logs that are compared.
use Rattle.std.specs.Prelude.{ℕ, List}
use Rattle.audit_text.specs.declared.compared_logs.ComparedLogs.{ComparedLogs}
use Rattle.uefi_audits.specs.diff.Views.{numbers_of}

-- Their names, and the algorithms whose digests are compared.
pub record Logs : Type 0 where
  pub old_name : List ℕ
  pub new_name : List ℕ
  pub algorithms : List ℕ

abbrev pub logs_of : ComparedLogs → Logs
logs_of logs = record {
  old_name = logs.old_name.now;
  new_name = logs.new_name.now;
  algorithms = numbers_of logs.algorithms.now;
}
