use Rattle.std.proofs.Common.{length}
use Rattle.uefi_path_text.proofs.write.bytes.+number.Given as goal

abbrev pub decreases-number : goal.decreases-number
decreases-number l = length l.bytes.now
