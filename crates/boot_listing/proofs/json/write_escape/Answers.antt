use Rattle.std.proofs.Common.{◌/◌, ◌%◌, arith, false}
use Rattle.std.proofs.lemmas.Fmt.{hex_byte}
use Rattle.boot_listing.proofs.json.write_escape.Goals as goal

pub returns : goal.returns
returns g c =
    let high = hex_byte false (c.args.character / 256) (omega (arith, c.requires)) in
    let low = hex_byte false (c.args.character % 256) (omega arith) in
    simp (c.laid_out.ensures, c.in_radix.ensures, c.laid_out-2.ensures, c.in_radix-2.ensures, high, low)
    at c.write.ensures.writes
