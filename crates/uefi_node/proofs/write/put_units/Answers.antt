use Rattle.std.proofs.Common.{◌+◌, ◌*◌, ap, ◌∙◌, arith}
use Rattle.std.specs.Option.{unwrap_or}
use Rattle.std.proofs.lemmas.Option.{unwrap_or-slice_get}
use Rattle.uefi_base.specs.Buffer.{put_at}
use Rattle.uefi_base.specs.LittleEndian.{u16_bytes}
use Rattle.uefi_base.specs.Views.{slice_units}
use Rattle.uefi_base.proofs.UnitsPut.{units_put}
use Rattle.uefi_node.proofs.write.put_units.Goals as goal

pub loop-i-preserved : goal.loop-i-preserved
loop-i-preserved c =
    let read = c.unwrap_or-unit.ensures ∙ ap (λ unit. unwrap_or unit 0) c.get.ensures
    ∙ unwrap_or-slice_get (slice_units c.args.units.now) c.loop-i.i 0 in
    c.put.ensures
    ∙ ap (λ part. put_at (c.args.offset + 2 * c.loop-i.i) part c.loop-i.buffer) (c.to_le_bytes.ensures ∙ ap u16_bytes read)
    ∙ units_put c.args.offset c.loop-i.i (slice_units c.args.units.now) c.args.buffer.now c.loop-i.buffer (omega arith)
    (omega arith) c.loop-i.invariant
