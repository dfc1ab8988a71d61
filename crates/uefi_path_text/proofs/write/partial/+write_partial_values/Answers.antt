use Rattle.std.proofs.Common.{arith}
use Rattle.std.proofs.lemmas.Grind.{common_steps}
use Rattle.uefi_path_text.proofs.Shown.{partial_marked}
use Rattle.uefi_path_text.proofs.write.partial.+write_partial_values.Goals as goal

pub returns : goal.returns
returns g t c =
    rw (partial_marked c.args.argument c.args.count c.args.rest.now c.args.mark.now c.front.result.now c.after.result.now c.value_size-size.result
    c.if-count-eq0.false c.value_size-size.ensures c.front.ensures c.after.ensures) (grind (arith, common_steps))
