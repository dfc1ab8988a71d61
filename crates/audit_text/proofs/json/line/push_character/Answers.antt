use Rattle.std.proofs.Common.{◌∙◌, arith, sym}
use Rattle.audit_text.proofs.json.Controls.{control_fits}
use Rattle.audit_text.proofs.json.line.push_character.Goals as goal

pub push_escape-requires : goal.push_escape-requires
push_escape-requires c =
    let fits = control_fits c.args.character (sym c.is_control.ensures ∙ c.if-is_control.true) in
    omega (arith, fits, c.from.ensures)
