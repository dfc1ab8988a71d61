use Rattle.std.proofs.Common.{subst}
use Rattle.uefi_path.specs.Views.{node_of}
use Rattle.uefi_path_text.specs.private.Writing.{WritesForm}
use Rattle.uefi_path_text.proofs.Tables.{partial_sections}
use Rattle.uefi_path_text.proofs.write.partial.write_form.Goals as goal

pub returns : goal.returns
returns g c =
    subst (λ text. WritesForm g.W.Write.write_str_gives c.args.f.now c.write_in_sections.result text c.write_in_sections.new.f)
    (partial_sections c.sections.result.now c.args.style (node_of c.args.node.now) c.sections.ensures)
    c.write_in_sections.ensures
