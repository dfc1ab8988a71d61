-- What is printed of a log whose first event isn't its header, though its data are one's.
use Rattle.std.specs.Prelude.{ℕ, List, [], ◌++◌, codes, Option, None, Some}
use Rattle.std.specs.Fmt.{decimal}
use Rattle.uefi_audits.specs.declared.header_fault.HeaderFault.{HeaderFault}
use Rattle.uefi_audits.specs.declared.header_fault.HeaderFault.TheVariants.{Pcr, Digest}
use Rattle.shown.specs.Name.{shown_name}

-- The line says what isn't as a header's.
unfoldable pub header_fault_lines : List ℕ → Option HeaderFault → List ℕ
header_fault_lines name None = []
header_fault_lines name (Some (Pcr pcr)) =
    shown_name name ++ (codes ": its header is of PCR " ++ (decimal pcr ++ codes ", not of PCR 0, so that it is read as version 1\n"))
header_fault_lines name (Some Digest) =
    shown_name name ++ codes ": the digest of its header isn't zero, so that it is read as version 1\n"
