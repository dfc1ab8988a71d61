use Rattle.uefi_path.specs.Node.{encoding}
use Rattle.uefi_path.proofs.Building.{written_after}
use Rattle.uefi_path.proofs.build.builder.push_at.Goals as goal

pub returns-in-Ok-clause-written : goal.returns-in-Ok-clause-written
returns-in-Ok-clause-written g c =
    written_after c.args.offset (encoding (g.N.BuildNode.node c.args.node.now)) c.args.buffer.now
    c.split_at_mut-rest.result.0.now c.split_at_mut-rest.result.1.now c.write.new.buffer
    c.split_at_mut-rest.ensures.front c.split_at_mut-rest.ensures.back c.in-Ok.ensures.written
