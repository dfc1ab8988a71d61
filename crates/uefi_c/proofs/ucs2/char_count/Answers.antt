use Rattle.std.proofs.Common.{arith}
use Rattle.std.proofs.lemmas.Str.{chars_from_encodes}
use Rattle.uefi_c.proofs.ucs2.char_count.Goals as goal

pub returns : goal.returns
returns c = grind (arith, chars_from_encodes)
