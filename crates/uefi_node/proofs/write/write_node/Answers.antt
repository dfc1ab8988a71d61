use Rattle.uefi_node.proofs.Written.{writes_value}
use Rattle.uefi_node.proofs.write.write_node.Goals as goal

pub returns : goal.returns
returns g c =
    writes_value g.T.NodeValue.layout c.args.value.now c.args.kind _ _ _ _ _ c.requires.value
    c.requires.kind c.requires.fields c.requires.tail c.write_parts.ensures
