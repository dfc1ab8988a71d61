use Rattle.std.proofs.Common.{IsTrue, map, sym, subst}
use Rattle.uefi_path_text.specs.write.Forms.{all_shown}
use Rattle.uefi_path_text.specs.private.FormViews.{parameter_of, part_of}
use Rattle.uefi_path_text.specs.private.Found.{values_after}
use Rattle.uefi_path_text.proofs.Shown.{shown_some, part_view}
use Rattle.uefi_path_text.proofs.write.fields.Fields.write_some.Goals as goal

pub write_from-requires-clause-shown : goal.write_from-requires-clause-shown
write_from-requires-clause-shown g c =
    let self = c.args.self.now in
    subst (λ l. IsTrue (all_shown l (values_after self l c.args.first)))
    (sym (part_view parameter_of self.parameters.now c.after.result.now c.front-shown.result.now c.args.first c.args.count c.after.ensures c.front-shown.ensures))
    (shown_some (map parameter_of self.parameters.now) (map part_of self.parts.now) self.payload.now c.args.first c.args.count c.requires.shown)

pub returns : goal.returns
returns g c =
    rw (← (part_view parameter_of c.args.self.now.parameters.now c.after.result.now c.front-shown.result.now c.args.first c.args.count c.after.ensures c.front-shown.ensures))
    c.write_from.ensures
