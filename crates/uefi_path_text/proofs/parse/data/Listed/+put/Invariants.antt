use Rattle.std.proofs.Common.{length}
use Rattle.uefi_path_text.proofs.parse.data.Listed.+put.Given as goal

abbrev pub decreases-put : goal.decreases-put
decreases-put l = length l.parts.now
