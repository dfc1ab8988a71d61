use Rattle.std.proofs.Common.{length}
use Rattle.uefi_path_text.proofs.write.value.+are_characters.Given as goal

abbrev pub decreases-are_characters : goal.decreases-are_characters
decreases-are_characters l = length l.units.now
