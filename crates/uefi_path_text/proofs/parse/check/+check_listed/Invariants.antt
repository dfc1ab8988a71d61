use Rattle.std.proofs.Common.{length}
use Rattle.uefi_path_text.proofs.parse.check.+check_listed.Given as goal

abbrev pub decreases-check_listed : goal.decreases-check_listed
decreases-check_listed l = length l.parameters.now
