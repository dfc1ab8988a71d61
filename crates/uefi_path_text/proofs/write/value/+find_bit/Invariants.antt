use Rattle.std.proofs.Common.{length}
use Rattle.uefi_path_text.proofs.write.value.+find_bit.Given as goal

abbrev pub decreases-find_bit : goal.decreases-find_bit
decreases-find_bit l = length l.words.now
