-- What a log leaves in the PCRs of a bank.
use Rattle.std.specs.Prelude.{Bool, List, is_err}
use Rattle.std.specs.List.{list_any}
use Rattle.uefi_tcg.specs.Entries.{Entry}
use Rattle.pcr_replay.specs.declared.bank.Bank.{Bank}
use Rattle.pcr_replay.specs.declared.bank_pcrs.BankPcrs.{BankPcrs}
use Rattle.pcr_replay.specs.declared.start.Start.{Start}
use Rattle.pcr_replay.specs.Replay.{Outcome, outcomes}
use Rattle.pcr_replay.specs.Views.{outcomes_of}

-- What each PCR of a bank holds, or the event by which it is undetermined.
pub record BankOutcomes : Type 0 where
  pub bank : Bank
  pub outcomes : List Outcome

-- Those that the events of a log lead to.
abbrev pub replayed : Start → List Entry → Bank → BankOutcomes
replayed start entries bank = record { bank = bank; outcomes = outcomes bank start entries }

-- A PCR of a bank is undetermined.
abbrev pub has_undetermined : BankOutcomes → Bool
has_undetermined bank = list_any is_err bank.outcomes

-- What a value of the code stands for.
abbrev pub bank_outcomes_of : BankPcrs → BankOutcomes
bank_outcomes_of found = record { bank = found.bank; outcomes = outcomes_of found.pcrs }
