-- The PCRs that a TPM held, in files.
use Rattle.std.specs.Prelude.{ℕ, List, ◌++◌, codes}
use Rattle.std.specs.Fmt.{decimal}
use Rattle.pcr_replay.specs.declared.bank.Bank.{Bank}
use Rattle.uefi_audits.specs.Naming.{bank_name}
use Rattle.uefi_audits.specs.declared.verify.held.HeldError.{HeldError}
use Rattle.uefi_audits.specs.declared.verify.held.HeldError.TheVariants.{Memory, Line}

-- What standard error is told of a file that has no PCRs which can be compared.
abbrev pub fault_text : HeldError → List ℕ
fault_text Memory = codes "out of memory"
fault_text (Line offset) =
    codes "the line at offset " ++ decimal offset ++ codes " states no PCR, or one that a line before it states"

-- The file of a PCR in a folder as Linux has it.
abbrev pub pcr_path : List ℕ → Bank → ℕ → List ℕ
pcr_path folder bank pcr =
    folder ++ codes "/pcr-" ++ bank_name bank ++ codes "/" ++ decimal pcr
