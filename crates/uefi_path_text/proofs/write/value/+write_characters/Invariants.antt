use Rattle.std.proofs.Common.{length}
use Rattle.uefi_path_text.proofs.write.value.+write_characters.Given as goal

abbrev pub decreases-write_characters : goal.decreases-write_characters
decreases-write_characters g l = length l.units.now
