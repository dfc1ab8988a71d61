use Rattle.clap.specs.Words.{found_of}
use Rattle.uefi_audit.proofs.Requests.{none_compared}
use Rattle.uefi_audit.proofs.request.compared_of.Goals as goal

pub returns-in_err-bank : goal.returns-in_err-bank
returns-in_err-bank c =
    rw c.from_residual.ensures (none_compared (found_of c.args.matches.now) c.in_err-bank.ensures)
