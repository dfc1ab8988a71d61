use Rattle.std.proofs.Common.{◌≡◌, ◌++◌, drop, map}
use Rattle.uefi_audits.specs.Numbered.{numbered}
use Rattle.uefi_audits.specs.OutOfPlace.{if_misplaced, is_separated, misplaced_in, misplaced_of}
use Rattle.uefi_audits.specs.private.Counting.{finding_of}
use Rattle.uefi_audits.proofs.out_of_place.push_misplaced.Given as goal

-- Those so far and those among the events to come are all, and whether one so far is the PCR's separator is known.
abbrev pub invariant-loop-index : goal.invariant-loop-index
invariant-loop-index g l = record {
  found : map misplaced_of l.found.items
      ++ numbered (if_misplaced l.pcr l.is_of_bios (map finding_of l.all)) l.index (drop l.index (map finding_of l.all))
      ≡ map misplaced_of l.initial.found.items ++ misplaced_in l.is_of_bios (map finding_of l.all) l.pcr;
  separated : l.is_separated ≡ is_separated l.pcr (map finding_of l.all) l.index;
}
