use Rattle.std.proofs.Common.{ap, map, ◌∙◌, sym}
use Rattle.uefi_path_text.specs.write.Fields.{argument_at}
use Rattle.uefi_path_text.specs.private.FormViews.{parameter_of}
use Rattle.uefi_path_text.proofs.Found.{argument_later}
use Rattle.uefi_path_text.proofs.write.fields.+argument_at.Goals as goal

pub returns-else-index-eq0 : goal.returns-else-index-eq0
returns-else-index-eq0 t c =
    c.argument_at.ensures ∙ sym (ap (λ l. argument_at (map parameter_of l) c.args.index) c.in_ok-parameter.ensures.cases.0
    ∙ argument_later (parameter_of c.in_ok-parameter.parameter.now) (map parameter_of c.in_ok-parameter.others.now) c.args.index c.if-index-eq0.false)
