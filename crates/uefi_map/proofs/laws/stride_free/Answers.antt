use Rattle.uefi_map.proofs.memory.StrideFree.{same_entries, writes_one}
use Rattle.uefi_map.proofs.laws.stride_free.Goals as goal

pub returns : goal.returns
returns c = record { same_entries = same_entries; writes_one = writes_one }
