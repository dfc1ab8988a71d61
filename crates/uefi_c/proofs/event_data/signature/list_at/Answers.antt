use Rattle.uefi_c.proofs.SignatureLists.{nothing}
use Rattle.uefi_c.proofs.event_data.signature.list_at.Goals as goal

pub returns-in_err-rest-clause-none : goal.returns-in_err-rest-clause-none
returns-in_err-rest-clause-none c = rw c.from_residual.ensures (nothing _ c.in_err-rest.ensures.past)
