-- The lines that name the events by which PCRs are undetermined.
use Rattle.std.specs.Prelude.{ℕ, List, [], ◌++◌, codes, Ok, Err}
use Rattle.std.specs.Fmt.{decimal}
use Rattle.pcr_replay.specs.declared.bank.Bank.{Bank}
use Rattle.pcr_replay.specs.declared.fault.Undetermined.{Undetermined}
use Rattle.pcr_replay.specs.Replay.{Outcome}
use Rattle.pcr_replay.specs.BankReplays.{BankOutcomes}
use Rattle.pcr_replay.specs.Texts.{undetermined_text as event_text}
use Rattle.uefi_audits.specs.Naming.{bank_name}
use Rattle.uefi_audits.specs.Numbered.{numbered}
use Rattle.shown.specs.Name.{shown_name}

-- The file's name, the bank, the PCR, and the first event by which it is undetermined.
unfoldable pub undetermined_line : List ℕ → Bank → ℕ → Undetermined → List ℕ
undetermined_line name bank number at =
    shown_name name ++ codes ": " ++ bank_name bank ++ codes ": PCR " ++ decimal number
    ++ codes " is undetermined: " ++ event_text at ++ codes "\n"

-- That line, if the PCR has no value.
unfoldable pub undetermined_text : List ℕ → Bank → ℕ → Outcome → List ℕ
undetermined_text name bank number (Ok value) = []
undetermined_text name bank number (Err at) = undetermined_line name bank number at

-- Those of a bank's PCRs, from the first on.
abbrev pub undetermined_lines : List ℕ → BankOutcomes → List ℕ
undetermined_lines name bank = numbered (undetermined_text name bank.bank) 0 bank.outcomes
