use Rattle.std.proofs.Common.{arith, refl, [], ◌∷◌}
use Rattle.uefi_node.specs.Messaging.{usb}
use Rattle.uefi_c.proofs.NodesWritten.{fields_needed, value_written}
use Rattle.uefi_c.proofs.nodes.usb.uefi_write_usb_node.Goals as goal

pub returns-clause-written : goal.returns-clause-written
returns-clause-written c =
    (value_written usb _ (c.args.node.now.parent_port_number ∷ c.args.node.now.interface_number ∷ []) [] _ _ _ _ refl refl c.write_parts-status.ensures).written

pub returns-clause-size : goal.returns-clause-size
returns-clause-size c =
    fields_needed usb _ (c.args.node.now.parent_port_number ∷ c.args.node.now.interface_number ∷ []) _ _ _ _ refl refl (omega arith) c.write_parts-status.ensures
