use Rattle.std.proofs.Common.{length}
use Rattle.uefi_path.proofs.Descriptions.{HasPassed}
use Rattle.uefi_path.proofs.load_option.split_description.Given as goal

abbrev pub invariant-loop-unit : goal.invariant-loop-unit
invariant-loop-unit l = HasPassed l.bytes l.rest

abbrev pub decreases-loop-unit : goal.decreases-loop-unit
decreases-loop-unit l = length l.rest
