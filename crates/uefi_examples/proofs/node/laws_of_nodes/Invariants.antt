use Rattle.uefi_node.specs.Media.{hard_drive}
use Rattle.uefi_examples.proofs.node.laws_of_nodes.Given as goal

abbrev pub ghost-faithful_types : goal.ghost-faithful_types
ghost-faithful_types a = hard_drive
