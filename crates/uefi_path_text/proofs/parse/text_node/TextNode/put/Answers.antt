use Rattle.uefi_path.specs.Node.{encoding}
use Rattle.uefi_path.proofs.Building.{written_after}
use Rattle.uefi_path_text.specs.private.TextNodes.{text_node}
use Rattle.uefi_path_text.proofs.parse.text_node.TextNode.put.Goals as goal

pub returns-clause-written : goal.returns-clause-written
returns-clause-written c =
    written_after c.args.offset (encoding (text_node c.args.self.now)) c.args.buffer.now
    c.split_at_mut-rest.result.0.now c.split_at_mut-rest.result.1.now c.write.new.buffer
    c.split_at_mut-rest.ensures.front c.split_at_mut-rest.ensures.back c.write.ensures.written
