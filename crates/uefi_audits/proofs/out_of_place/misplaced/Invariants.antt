use Rattle.std.proofs.Common.{◌≡◌, map}
use Rattle.std.specs.List.{flat_map, range_with_len}
use Rattle.uefi_audits.specs.OutOfPlace.{misplaced_in, misplaced_of}
use Rattle.uefi_audits.specs.private.Counting.{finding_of}
use Rattle.uefi_audits.proofs.out_of_place.misplaced.Given as goal

-- Those of the PCRs so far were appended.
abbrev pub invariant-loop-pcr : goal.invariant-loop-pcr
invariant-loop-pcr g l =
    map misplaced_of l.found.items
    ≡ flat_map (misplaced_in l.is_of_bios (map finding_of l.all)) (range_with_len 0 l.pcr)
