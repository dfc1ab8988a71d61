use Rattle.std.proofs.Common.{length}
use Rattle.uefi_path_text.proofs.write.value.+write_reversed.Given as goal

abbrev pub decreases-write_reversed : goal.decreases-write_reversed
decreases-write_reversed g l = length l.value.now
