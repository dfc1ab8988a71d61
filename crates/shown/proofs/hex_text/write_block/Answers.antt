use Rattle.std.proofs.Common.{◌∙◌, arith}
use Rattle.std.proofs.Output.{has_written_of_eq}
use Rattle.hex.specs.Hex.{lower_digits}
use Rattle.hex.proofs.HexLemmas.{IsAscii-encode_with}
use Rattle.shown.proofs.HexBlocks.{encode_lower-hex_of, lower_digits-ascii}
use Rattle.shown.proofs.hex_text.write_block.Goals as goal

pub ascii-requires : goal.ascii-requires
ascii-requires g c = rw c.in-Ok.ensures.written (IsAscii-encode_with lower_digits c.args.block.now lower_digits-ascii)

pub returns : goal.returns
returns g c plain ok =
    let digits = c.ascii.ensures ∙ c.in-Ok.ensures.written
    ∙ encode_lower-hex_of c.args.block.now (λ i. omega (arith, c.type_inv.block i)) in
    has_written_of_eq _ _ _ _ _ digits (c.write_str.ensures.writes plain ok)
