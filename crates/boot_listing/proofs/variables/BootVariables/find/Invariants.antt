use Rattle.std.proofs.Common.{take}
use Rattle.boot_listing.specs.private.Found.{Finds}
use Rattle.boot_listing.proofs.variables.BootVariables.find.Given as goal

abbrev pub invariant-loop-file : goal.invariant-loop-file
invariant-loop-file g l = Finds (take l.file-index l.files) l.found
