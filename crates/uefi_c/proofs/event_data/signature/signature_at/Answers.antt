use Rattle.std.proofs.Common.{sym}
use Rattle.uefi_c.proofs.SignatureLists.{found_sized, found_there, none_found, no_rest}
use Rattle.uefi_c.proofs.event_data.signature.signature_at.Goals as goal

pub returns-in_err-bytes_from-clause-none : goal.returns-in_err-bytes_from-clause-none
returns-in_err-bytes_from-clause-none c = rw c.from_residual.ensures
    (λ signature has begins. no_rest _ c.args.size c.in_err-bytes_from.ensures.past signature has begins)

pub returns-clause-signature : goal.returns-clause-signature
returns-clause-signature c = found_sized c.in_ok-bytes_from.field-0.now c.in_ok-bytes.bytes.now c.args.size
    c.in_ok-bytes.ensures.cases.1 c.in_ok-bytes.ensures.cases.0 c.read.result c.read.ensures

pub returns-clause-prefix : goal.returns-clause-prefix
returns-clause-prefix c = rw (sym c.in_ok-bytes_from.ensures.rest)
    (found_there c.in_ok-bytes_from.field-0.now c.in_ok-bytes.bytes.now c.args.size
    c.in_ok-bytes.ensures.cases.1 c.in_ok-bytes.ensures.cases.0 c.read.result c.read.ensures)

pub returns-clause-none : goal.returns-clause-none
returns-clause-none c = rw (sym c.in_ok-bytes_from.ensures.rest)
    (none_found c.in_ok-bytes_from.field-0.now c.in_ok-bytes.bytes.now c.args.size
    c.in_ok-bytes.ensures.cases.1 c.in_ok-bytes.ensures.cases.0 c.read.result c.read.ensures)
