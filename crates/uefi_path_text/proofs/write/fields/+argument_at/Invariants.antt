use Rattle.std.proofs.Common.{length}
use Rattle.uefi_path_text.proofs.write.fields.+argument_at.Given as goal

abbrev pub decreases-argument_at : goal.decreases-argument_at
decreases-argument_at l = length l.parameters.now
