use Rattle.uefi_audits.proofs.verify.PcrLines.{is_pcr_line}
use Rattle.uefi_audits.proofs.verify.reading.is_of_other.Goals as goal

pub returns-in-Unsupported : goal.returns-in-Unsupported
returns-in-Unsupported c =
    let found = is_pcr_line c.args.line.now c.pcr_in_line.result c.is_some.result c.pcr_in_line.ensures c.is_some.ensures in
    ((λ so. (c.in-Unsupported.is, found.0 so)), (λ so. found.1 so.1))
