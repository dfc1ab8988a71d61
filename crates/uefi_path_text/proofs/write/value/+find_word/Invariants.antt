use Rattle.std.proofs.Common.{length}
use Rattle.uefi_path_text.proofs.write.value.+find_word.Given as goal

abbrev pub decreases-find_word : goal.decreases-find_word
decreases-find_word l = length l.words.now
