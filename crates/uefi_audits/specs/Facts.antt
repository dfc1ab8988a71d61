-- What is known of a log before it is replayed.
use Rattle.std.specs.Prelude.{ℕ, ◌≡◌, Option}
use Rattle.pcr_replay.specs.ReadLogs.{entries_in, table_in}
use Rattle.pcr_replay.specs.declared.read_log.ReadLog.{ReadLog}
use Rattle.uefi_audits.specs.Algorithms.{AreAlgorithmsIn}
use Rattle.uefi_audits.specs.KnownStart.{known_start}
use Rattle.uefi_audits.specs.Trailing.{trailing_of}
use Rattle.uefi_audits.specs.declared.facts.LogFacts.{LogFacts}

-- With the locality that the caller states.
pub record AreFactsOf {A : Type 0} (locality : Option ℕ) (read : ReadLog A) (facts : LogFacts) : Type 0 where
  pub start : facts.start ≡ known_start locality (entries_in read)
  pub algorithms : AreAlgorithmsIn (table_in read) facts.algorithms.items
  pub trailing : facts.trailing ≡ trailing_of read
