use Rattle.uefi_audits.proofs.verify.PcrLines.{states_none}
use Rattle.uefi_audits.proofs.verify.reading.held_in_line.Goals as goal

pub returns-in_default-section : goal.returns-in_default-section
returns-in_default-section g c =
    states_none c.args.section c.args.line.now (rw c.in_default.is at c.in_ok-pcr.ensures)
    (λ bank is. absurd (c.in_default-section.not-Replayed bank is))

pub returns-in_default-pcr_in_line : goal.returns-in_default-pcr_in_line
returns-in_default-pcr_in_line g c =
    states_none c.args.section c.args.line.now (rw c.in_default.is at c.in_ok-pcr.ensures)
    (λ bank is. c.in_default-pcr_in_line.ensures)
