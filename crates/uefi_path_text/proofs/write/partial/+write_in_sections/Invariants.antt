use Rattle.std.proofs.Common.{length}
use Rattle.uefi_path_text.proofs.write.partial.+write_in_sections.Given as goal

abbrev pub decreases-write_in_sections : goal.decreases-write_in_sections
decreases-write_in_sections g l = length l.sections.now
