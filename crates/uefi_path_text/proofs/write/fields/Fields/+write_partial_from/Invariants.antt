use Rattle.std.proofs.Common.{length}
use Rattle.uefi_path_text.proofs.write.fields.Fields.+write_partial_from.Given as goal

abbrev pub decreases-write_partial_from : goal.decreases-write_partial_from
decreases-write_partial_from g l = length l.parameters.now
