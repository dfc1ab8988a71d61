use Rattle.std.proofs.Common.{◌∙◌, arith, sym}
use Rattle.boot_listing.proofs.Controls.{control_fits}
use Rattle.boot_listing.proofs.json.write_character.Goals as goal

pub write_escape-requires : goal.write_escape-requires
write_escape-requires g c =
    let fits = control_fits c.args.character (sym c.is_control.ensures ∙ c.if-is_control.true) in
    omega (arith, fits, c.from.ensures)
