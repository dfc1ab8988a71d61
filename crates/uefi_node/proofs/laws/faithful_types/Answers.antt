use Rattle.uefi_node.proofs.Faithful.{faithful}
use Rattle.uefi_node.proofs.laws.faithful_types.Goals as goal

pub returns : goal.returns
returns g c = faithful g.layout
