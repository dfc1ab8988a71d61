use Rattle.std.proofs.Common.{arith}
use Rattle.uefi_c.proofs.SignatureLists.{short, long}
use Rattle.uefi_c.proofs.event_data.signature.stated_part.Goals as goal

pub returns-then-bytes-lt-FIELDS_LENGTH-clause-none : goal.returns-then-bytes-lt-FIELDS_LENGTH-clause-none
returns-then-bytes-lt-FIELDS_LENGTH-clause-none c = short c.args.bytes.now c.if-bytes-lt-FIELDS_LENGTH.true

pub returns-in_err-part-clause-none : goal.returns-in_err-part-clause-none
returns-in_err-part-clause-none c = rw c.from_residual.ensures
    (long c.args.bytes.now (omega (arith, c.in_err-part.ensures.cases, c.u32_at-size.ensures)))
