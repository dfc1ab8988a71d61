use Rattle.uefi_c.proofs.WorkspaceBanks.{its_bank, no_bank}
use Rattle.uefi_c.proofs.workspace.UefiBankBankStore.bank.Goals as goal

pub returns-in-Some : goal.returns-in-Some
returns-in-Some c = its_bank c.in-Some.bank c.args.self.now.algorithm c.in-Some.ensures.bank

pub returns-in-None : goal.returns-in-None
returns-in-None c = no_bank c.args.self.now.algorithm c.in-None.ensures.none
