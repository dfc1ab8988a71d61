use Rattle.uefi_c.proofs.BootOrders.{no_order}
use Rattle.uefi_c.proofs.boot_order.uefi_boot_order.Goals as goal

pub returns-in_default-clause-no_order : goal.returns-in_default-clause-no_order
returns-in_default-clause-no_order c = λ _. no_order c.args.bytes.now c.in_default.ensures
