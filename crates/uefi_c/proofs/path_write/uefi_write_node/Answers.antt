use Rattle.std.proofs.Common.{refl}
use Rattle.uefi_base.proofs.Parts.{put_first}
use Rattle.uefi_path.specs.Node.{encoding}
use Rattle.uefi_c.specs.Path.{node_seen}
use Rattle.uefi_c.proofs.path_write.uefi_write_node.Goals as goal

pub returns-clause-written : goal.returns-clause-written
returns-clause-written c = λ _.
    let bytes = encoding (node_seen c.args.node.now) in
    put_first bytes bytes c.args.buffer.now c.put_node.new.buffer refl c.put_node.ensures
