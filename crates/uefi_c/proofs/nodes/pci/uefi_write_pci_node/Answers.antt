use Rattle.std.proofs.Common.{arith, refl, [], ◌∷◌}
use Rattle.uefi_node.specs.Hardware.{pci}
use Rattle.uefi_c.proofs.NodesWritten.{fields_needed, value_written}
use Rattle.uefi_c.proofs.nodes.pci.uefi_write_pci_node.Goals as goal

pub returns-clause-written : goal.returns-clause-written
returns-clause-written c =
    (value_written pci _ (c.args.node.now.function ∷ c.args.node.now.device ∷ []) [] _ _ _ _ refl refl c.write_parts-status.ensures).written

pub returns-clause-size : goal.returns-clause-size
returns-clause-size c =
    fields_needed pci _ (c.args.node.now.function ∷ c.args.node.now.device ∷ []) _ _ _ _ refl refl (omega arith) c.write_parts-status.ensures
