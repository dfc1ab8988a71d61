use Rattle.std.proofs.Common.{length}
use Rattle.uefi_path_text.proofs.write.fields.Fields.+begin_with.Given as goal

abbrev pub decreases-begin_with : goal.decreases-begin_with
decreases-begin_with l = length l.parts.now
