use Rattle.std.proofs.Common.{◌≡◌, map, take}
use Rattle.uefi_audits.specs.private.diff.Ranks.{paired_by, paired_of}
use Rattle.uefi_audits.proofs.diff.counterparts.each_paired.Given as goal

-- They are those of the events so far.
abbrev pub invariant-loop-ranked : goal.invariant-loop-ranked
invariant-loop-ranked l =
    map paired_of l.found.items ≡ map (paired_by l.places) (take l.ranked-index l.all)
