use Rattle.uefi_audits.proofs.diff.OneCounterpart.{one_counterpart}
use Rattle.uefi_audits.proofs.laws.one_counterpart.Goals as goal

pub returns : goal.returns
returns c = one_counterpart
