use Rattle.std.proofs.Common.{◌/◌, ◌%◌, ap, true, arith}
use Rattle.std.proofs.lemmas.Fmt.{hex_byte}
use Rattle.boot_listing.specs.Variables.{name_of}
use Rattle.boot_listing.proofs.variables.BootVariableDisplay.fmt.Goals as goal

pub returns-in-BootOption-clause-writes : goal.returns-in-BootOption-clause-writes
returns-in-BootOption-clause-writes g c =
    let high = hex_byte true (c.in-BootOption.number / 256) (omega arith) in
    let low = hex_byte true (c.in-BootOption.number % 256) (omega arith) in
    rw (ap name_of c.in-BootOption.is) (simp (
      c.laid_out.ensures,
      c.in_radix.ensures,
      c.laid_out-in-BootOption.ensures,
      c.in_radix-in-BootOption.ensures,
      high,
      low,
    ) at c.write.ensures.writes)
