use Rattle.std.proofs.Common.{ap, map, ◌∙◌, sym, arith}
use Rattle.std.proofs.lemmas.List.{length-map}
use Rattle.uefi_path_text.specs.write.Fields.{value_found}
use Rattle.uefi_path_text.specs.private.FormViews.{parameter_of, part_of}
use Rattle.uefi_path_text.proofs.Found.{found_within, found_past}
use Rattle.uefi_path_text.proofs.write.fields.Fields.value.Goals as goal

pub returns-then-index-self : goal.returns-then-index-self
returns-then-index-self c =
    let ps = map parameter_of c.args.self.now.parameters.now in
    let parts = map part_of c.args.self.now.parts.now in
    c.found.ensures ∙ sym (found_within ps parts ps 0 c.args.index c.args.self.now.payload.now
    (omega (arith, c.if-index-self.true, length-map c.args.self.now.parameters.now parameter_of))
    ∙ ap (λ n. value_found ps parts n c.args.self.now.payload.now) (omega arith))

pub returns-else-index-self : goal.returns-else-index-self
returns-else-index-self c =
    let ps = map parameter_of c.args.self.now.parameters.now in
    sym (found_past ps (map part_of c.args.self.now.parts.now) ps 0 c.args.index c.args.self.now.payload.now
    (omega (arith, c.if-index-self.false, length-map c.args.self.now.parameters.now parameter_of)))
