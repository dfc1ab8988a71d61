use Rattle.std.proofs.Common.{sym, ◌∙◌}
use Rattle.uefi_audits.proofs.Widening.{widened_not}
use Rattle.uefi_audits.proofs.check.measured.narrowed.Goals as goal

pub returns : goal.returns
returns g c =
    widened_not c.args.units.now c.loop-byte.bytes.items c.loop-byte.rest.now c.loop-byte.invariant
    (sym c.is_empty.ensures ∙ c.if-is_empty.false) c.in_default.ensures
