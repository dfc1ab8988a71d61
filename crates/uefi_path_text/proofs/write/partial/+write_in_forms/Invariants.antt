use Rattle.std.proofs.Common.{length}
use Rattle.uefi_path_text.proofs.write.partial.+write_in_forms.Given as goal

abbrev pub decreases-write_in_forms : goal.decreases-write_in_forms
decreases-write_in_forms g l = length l.forms.now
