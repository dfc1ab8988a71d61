use Rattle.std.proofs.Common.{length}
use Rattle.uefi_path_text.proofs.write.fields.+value_found.Given as goal

abbrev pub decreases-value_found : goal.decreases-value_found
decreases-value_found l = length l.parts.now
