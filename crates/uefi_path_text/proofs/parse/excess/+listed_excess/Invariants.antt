use Rattle.std.proofs.Common.{length}
use Rattle.uefi_path_text.proofs.parse.excess.+listed_excess.Given as goal

abbrev pub decreases-listed_excess : goal.decreases-listed_excess
decreases-listed_excess l = length l.parameters.now
