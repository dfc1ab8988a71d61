use Rattle.std.proofs.Common.{◌≤◌, map}
use Rattle.uefi_audits.specs.diff.Differences.{DifferBelow}
use Rattle.uefi_audits.specs.diff.Views.{difference_of, numbered_of, parts_of}
use Rattle.uefi_audits.proofs.diff.difference.differences_of.Given as goal

-- They are those of the PCRs below this one.
abbrev pub invariant-loop-pcr : goal.invariant-loop-pcr
invariant-loop-pcr l = record {
  below : DifferBelow (parts_of l.parts) l.pcr (map numbered_of l.olds) (map numbered_of l.news) (map difference_of l.found.items);
  within : l.pcr ≤ 25;
}
