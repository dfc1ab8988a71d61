-- What standard error has of PCRs that are asked for and not stated.
use Rattle.std.specs.Prelude.{ℕ, List, ◌++◌, codes, flat_map}
use Rattle.std.specs.Fmt.{decimal}
use Rattle.uefi_audits.specs.Naming.{bank_name}
use Rattle.uefi_audits.specs.declared.verify.named.NamedPcr.{NamedPcr}
use Rattle.shown.specs.Name.{shown_name}

-- The line of one, by the name of the file that states the PCRs; and those of all.
unfoldable pub missing_line : List ℕ → NamedPcr → List ℕ
missing_line name missing =
    shown_name name ++ (codes ": states no " ++ (bank_name missing.bank ++ (codes " PCR " ++ (decimal missing.pcr
    ++ codes ", which is asked for\n"))))

abbrev pub missing_lines : List ℕ → List NamedPcr → List ℕ
missing_lines name missing = flat_map (missing_line name) missing
