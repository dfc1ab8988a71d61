use Rattle.std.proofs.Common.{map, take}
use Rattle.uefi_audits.specs.private.diff.Ranks.{ArePlaces, event_of}
use Rattle.uefi_audits.proofs.diff.counterparts.places_of.Given as goal

-- They are those of the events so far.
abbrev pub invariant-loop-ranked : goal.invariant-loop-ranked
invariant-loop-ranked l = ArePlaces l.places (map event_of (take l.ranked-index l.all))
