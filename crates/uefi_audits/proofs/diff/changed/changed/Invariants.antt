use Rattle.std.proofs.Common.{map, take}
use Rattle.uefi_audits.specs.diff.Differences.{AreChanged}
use Rattle.uefi_audits.specs.diff.Views.{change_of, parts_of}
use Rattle.uefi_audits.specs.private.diff.Ranks.{pair_of}
use Rattle.uefi_audits.proofs.diff.changed.changed.Given as goal

-- They are those of the pairs so far.
abbrev pub invariant-loop-pair : goal.invariant-loop-pair
invariant-loop-pair l =
    AreChanged (parts_of l.parts) (map pair_of (take l.pair-index l.pairs)) (map change_of l.found.items)
