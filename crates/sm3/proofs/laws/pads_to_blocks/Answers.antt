use Rattle.sm3.proofs.Padding.{pads_to_blocks}
use Rattle.sm3.proofs.laws.pads_to_blocks.Goals as goal

pub returns : goal.returns
returns c = pads_to_blocks
