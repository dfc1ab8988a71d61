use Rattle.std.proofs.Common.{false}
use Rattle.std.proofs.lemmas.Fmt.{hex_byte}
use Rattle.shown.proofs.name.write_escape.Goals as goal

pub returns : goal.returns
returns g c =
    simp (c.laid_out.ensures, c.in_radix.ensures, hex_byte false c.args.byte c.ranges.byte.fits)
    at c.write.ensures.writes
