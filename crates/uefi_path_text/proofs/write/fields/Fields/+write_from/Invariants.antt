use Rattle.std.proofs.Common.{length}
use Rattle.uefi_path_text.proofs.write.fields.Fields.+write_from.Given as goal

abbrev pub decreases-write_from : goal.decreases-write_from
decreases-write_from g l = length l.parameters.now
