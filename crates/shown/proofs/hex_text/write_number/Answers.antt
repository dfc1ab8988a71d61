use Rattle.std.proofs.Common.{◌∙◌, refl}
use Rattle.std.proofs.Output.{has_written_of_eq}
use Rattle.shown.proofs.HexNumbers.{filled_start, filled_more, ended-ascii, ended-text}
use Rattle.shown.proofs.hex_text.write_number.Goals as goal

pub loop-rest-init : goal.loop-rest-init
loop-rest-init g c = filled_start c.args.number _ c.ranges.number.fits refl

pub loop-rest-preserved : goal.loop-rest-preserved
loop-rest-preserved g c = rw c.hex_digit.ensures
    (filled_more c.args.number c.loop-rest.rest c.loop-rest.start c.loop-rest.text c.loop-rest-test.true
    c.loop-rest.invariant)

pub ascii-requires : goal.ascii-requires
ascii-requires g c = rw c.hex_digit-2.ensures
    (ended-ascii c.args.number c.loop-rest.rest c.loop-rest.start c.loop-rest.text c.loop-rest-test.false
    c.loop-rest.invariant)

pub returns : goal.returns
returns g c plain ok =
    let shown = rw c.hex_digit-2.ensures at c.ascii.ensures in
    has_written_of_eq _ _ _ _ _ (shown ∙ ended-text c.args.number c.loop-rest.rest c.loop-rest.start c.loop-rest.text
    c.loop-rest-test.false c.loop-rest.invariant) (c.write_str.ensures.writes plain ok)
