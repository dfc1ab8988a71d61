use Rattle.std.proofs.Common.{map, subst, refl, sym}
use Rattle.uefi_path.specs.Views.{node_of}
use Rattle.uefi_path_text.specs.private.FormViews.{form_of}
use Rattle.uefi_path_text.specs.private.Writing.{WritesForm}
use Rattle.uefi_path_text.proofs.Tables.{shows_forms, shows_none}
use Rattle.uefi_path_text.proofs.write.write_displayed.Goals as goal

pub returns-then-style : goal.returns-then-style
returns-then-style g c =
    subst (λ text. WritesForm g.W.Write.write_str_gives c.args.f.now c.write_in_forms.result text c.write_in_forms.new.f)
    (shows_forms (map form_of c.forms.result.now) c.args.style (node_of c.args.node.now) c.forms.ensures c.if-style.true)
    c.write_in_forms.ensures

pub returns-else-style : goal.returns-else-style
returns-else-style g c = record {
  some = tt;
  none = (sym (shows_none c.args.style (node_of c.args.node.now) c.if-style.false), refl {a = c.args.f.now});
}
