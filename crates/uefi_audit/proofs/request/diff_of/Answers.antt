use Rattle.clap.specs.Words.{found_of}
use Rattle.uefi_audit.proofs.Requests.{no_diff}
use Rattle.uefi_audit.proofs.request.diff_of.Goals as goal

pub returns-in_err-asked-clause-nothing : goal.returns-in_err-asked-clause-nothing
returns-in_err-asked-clause-nothing c =
    rw c.from_residual-in_err-asked.ensures (no_diff (found_of c.args.matches.now) c.in_err-asked.ensures)
