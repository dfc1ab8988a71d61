use Rattle.uefi_c.proofs.EventBytes.{none_there}
use Rattle.uefi_c.proofs.event_data.tagged.tagged_at.Goals as goal

pub returns-in_err-bytes-clause-none : goal.returns-in_err-bytes-clause-none
returns-in_err-bytes-clause-none c = rw c.from_residual.ensures
    (λ tagged is begins. none_there tagged _ c.in_err-bytes.ensures.past begins)
