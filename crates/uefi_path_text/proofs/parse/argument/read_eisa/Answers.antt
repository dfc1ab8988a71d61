use Rattle.std.proofs.Common.{arith, ◌≡◌, ◌<◌, get_or, length, true, sym, ◌∙◌, below_more}
use Rattle.uefi_path_text.specs.private.FromText.{fits_eisa}
use Rattle.uefi_path_text.proofs.arguments.Identifiers.{within_from_fits, digits_of_eisa}
use Rattle.uefi_path_text.proofs.parse.argument.read_eisa.Goals as goal

pub loop-offset-preserved : goal.loop-offset-preserved
loop-offset-preserved c =
    let fits : fits_eisa c.loop-offset.offset (get_or c.args.text.now c.loop-offset.offset 0) ≡ true = sym c.fits_eisa.ensures ∙ c.if-not-fits_eisa.false in
    let within : c.loop-offset.offset < 7 = within_from_fits c.loop-offset.offset (get_or c.args.text.now c.loop-offset.offset 0) fits in
    (below_more _ _ c.loop-offset.invariant.0 fits, omega arith)

pub eisa_letter-requires : goal.eisa_letter-requires
eisa_letter-requires c = c.loop-offset.invariant.0 0 (omega arith)

pub eisa_letter-requires-2 : goal.eisa_letter-requires-2
eisa_letter-requires-2 c = c.loop-offset.invariant.0 1 (omega arith)

pub eisa_letter-requires-3 : goal.eisa_letter-requires-3
eisa_letter-requires-3 c = c.loop-offset.invariant.0 2 (omega arith)

pub returns-clause-number : goal.returns-clause-number
returns-clause-number c =
    let seven : length c.args.text.now ≡ 7 = omega arith in
    omega (arith, digits_of_eisa c.args.text.now seven)
