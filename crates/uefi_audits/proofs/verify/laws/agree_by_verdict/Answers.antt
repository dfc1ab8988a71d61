use Rattle.uefi_audits.proofs.verify.Agreement.{agree_by_verdict}
use Rattle.uefi_audits.proofs.verify.laws.agree_by_verdict.Goals as goal

pub returns : goal.returns
returns c = agree_by_verdict
