use Rattle.uefi_audit.proofs.request.request_of.Goals as goal

pub returns-in_err-reading-clause-nothing : goal.returns-in_err-reading-clause-nothing
returns-in_err-reading-clause-nothing c =
    rw c.from_residual.ensures (λ reading asks. absurd (c.in_err-reading.ensures reading asks))
