use Rattle.std.proofs.Common.{length}
use Rattle.uefi_path_text.proofs.parse.data.Listed.+len.Given as goal

abbrev pub decreases-len : goal.decreases-len
decreases-len l = length l.parts.now
