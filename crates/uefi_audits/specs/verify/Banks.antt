-- Banks that are compared.
use Rattle.std.specs.Prelude.{◌==◌, Bool, List}
use Rattle.std.specs.List.{filter, list_any}
use Rattle.pcr_replay.specs.declared.bank.Bank.{Bank}
use Rattle.pcr_replay.specs.Banks.{algorithm_of, all_banks}
use Rattle.uefi_audits.specs.declared.verify.held.HeldPcr.{HeldPcr}

-- Banks are the same if their algorithms are.
abbrev pub is_same_bank : Bank → Bank → Bool
is_same_bank bank other = algorithm_of bank == algorithm_of other

-- Those of which a PCR is held, in the order of their algorithms' numbers.
abbrev pub is_held : List HeldPcr → Bank → Bool
is_held held bank = list_any (λ pcr. is_same_bank pcr.bank bank) held

abbrev pub held_banks : List HeldPcr → List Bank
held_banks held = filter (is_held held) all_banks
