use Rattle.uefi_audits.proofs.naming.BankOf.{bank_found}
use Rattle.uefi_audits.proofs.naming.bank_of.Goals as goal

pub returns : goal.returns
returns c = bank_found c.args.algorithm.0 c.of.result c.of.ensures.bank c.of.ensures.none
