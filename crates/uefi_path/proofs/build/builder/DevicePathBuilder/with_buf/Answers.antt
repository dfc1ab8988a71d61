use Rattle.std.proofs.Common.{[], take, rules}
use Rattle.uefi_path.specs.private.Encoding.{IsEncodingBefore}
use Rattle.uefi_path.proofs.Building.{none_encoded, these_nodes}
use Rattle.uefi_path.proofs.build.builder.DevicePathBuilder.with_buf.Goals as goal

pub returns-clause-nodes : goal.returns-clause-nodes
returns-clause-nodes c =
    let encodes : IsEncodingBefore (take 0 c.args.buffer.now) [] = none_encoded c.args.buffer.now in
    search (rules, these_nodes)
