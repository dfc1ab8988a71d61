use Rattle.std.proofs.Common.{length}
use Rattle.uefi_path_text.proofs.write.fields.Fields.+are_shown.Given as goal

abbrev pub decreases-are_shown : goal.decreases-are_shown
decreases-are_shown l = length l.parameters.now
