use Rattle.std.proofs.Common.{length}
use Rattle.uefi_path_text.proofs.write.fields.Fields.+may_be_all.Given as goal

abbrev pub decreases-may_be_all : goal.decreases-may_be_all
decreases-may_be_all l = length l.parameters.now
