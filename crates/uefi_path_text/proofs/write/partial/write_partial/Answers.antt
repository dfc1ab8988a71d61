use Rattle.std.proofs.Common.{subst, refl, sym}
use Rattle.uefi_path.specs.Views.{node_of}
use Rattle.uefi_path_text.specs.private.Writing.{WritesForm}
use Rattle.uefi_path_text.proofs.Tables.{shows_part, shows_no_part}
use Rattle.uefi_path_text.proofs.write.partial.write_partial.Goals as goal

pub returns-then-style : goal.returns-then-style
returns-then-style g c =
    subst (λ text. WritesForm g.W.Write.write_str_gives c.args.f.now c.write_form_or_name.result text c.write_form_or_name.new.f)
    (shows_part c.args.style (node_of c.args.node.now) c.if-style.true) c.write_form_or_name.ensures

pub returns-else-style : goal.returns-else-style
returns-else-style g c = record {
  some = tt;
  none = (sym (shows_no_part c.args.style (node_of c.args.node.now) c.if-style.false), refl {a = c.args.f.now});
}
