use Rattle.std.proofs.Common.{◌++◌, [], ◌∙◌, ap, arith, refl}
use Rattle.uefi_base.specs.LittleEndian.{u32_bytes}
use Rattle.uefi_node.proofs.messaging.infiniband.InfinibandBuildNode.write.Goals as goal

pub write_node-requires : goal.write_node-requires
write_node-requires c = λ κs.
    let value = c.args.self.now in
    let flags = c.to_le_bytes.ensures ∙ ap u32_bytes c.bits.ensures in
    let fields = c.joined-fields.ensures ∙ (λ i. flags i ++ (value.port_gid
    ++ (c.to_le_bytes-2.ensures i ++ (c.to_le_bytes-3.ensures i ++ (c.to_le_bytes-4.ensures i ++ []))))) in
    ((refl, tt), (refl, (refl, (fields, (grind arith, refl)))))
