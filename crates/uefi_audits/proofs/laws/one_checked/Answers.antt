use Rattle.uefi_audits.proofs.OneChecked.{one_checked}
use Rattle.uefi_audits.proofs.laws.one_checked.Goals as goal

pub returns : goal.returns
returns c = one_checked
