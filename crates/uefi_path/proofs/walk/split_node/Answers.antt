use Rattle.std.proofs.Common.{◌∙◌, arith}
use Rattle.uefi_path.specs.Node.{HasNode}
use Rattle.uefi_path.proofs.Decide.{node_stated}
use Rattle.uefi_path.proofs.Nodes.{stated_prefix, two_bytes_of_length}
use Rattle.uefi_path.proofs.walk.split_node.Goals as goal

pub new_unchecked-requires : goal.new_unchecked-requires
new_unchecked-requires c =
    let bytes = c.args.bytes.now in
    let n = c.from-length.result in
    let made = c.from-length.ensures ∙ c.u16_at.ensures in
    let has : HasNode bytes =
    node_stated bytes (λ i. omega (arith, c.type_inv.bytes i))
    (omega arith, (omega (arith, made, two_bytes_of_length bytes), omega (arith, made, two_bytes_of_length bytes))) in
    rw c.split_at.ensures.front (stated_prefix bytes n has made)
