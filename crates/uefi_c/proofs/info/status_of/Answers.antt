use Rattle.std.proofs.Common.{◌∙◌, sym}
use Rattle.uefi_c.proofs.NameBytes.{status_with, status_without}
use Rattle.uefi_c.proofs.info.status_of.Goals as goal

pub returns-in-Some-clause-verdict : goal.returns-in-Some-clause-verdict
returns-in-Some-clause-verdict c = λ verdict refuses.
    status_with verdict c.args.error.now refuses c.in-Some._size (sym c.data.ensures ∙ c.in-Some.is)

pub returns-in-None-clause-verdict : goal.returns-in-None-clause-verdict
returns-in-None-clause-verdict c = λ verdict refuses.
    status_without verdict c.args.error.now refuses (sym c.data.ensures ∙ c.in-None.is)
