use Rattle.uefi_path_text.specs.private.FormViews.{parameter_of}
use Rattle.uefi_path_text.proofs.Shown.{part_view}
use Rattle.uefi_path_text.proofs.write.fields.Fields.write_partial.Goals as goal

pub returns : goal.returns
returns g c =
    rw (← (part_view parameter_of c.args.self.now.parameters.now c.after.result.now c.front-shown.result.now c.args.first c.args.count c.after.ensures c.front-shown.ensures))
    c.write_partial_from.ensures
