use Rattle.uefi_records.proofs.time.ReadBack.{one_time}
use Rattle.uefi_records.proofs.laws.one_time.Goals as goal

pub returns : goal.returns
returns c = one_time
