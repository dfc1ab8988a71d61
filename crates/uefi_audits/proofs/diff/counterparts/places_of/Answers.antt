use Rattle.std.proofs.Common.{List, arith, map, subst}
use Rattle.uefi_audits.specs.declared.diff.counterparts.RankedEvent.{RankedEvent}
use Rattle.uefi_audits.specs.private.diff.Ranks.{ArePlaces, event_of}
use Rattle.uefi_audits.proofs.FirstOnes.{all_taken}
use Rattle.uefi_audits.proofs.diff.Counts.{places_more}
use Rattle.uefi_audits.proofs.diff.counterparts.places_of.Goals as goal

pub loop-ranked-preserved : goal.loop-ranked-preserved
loop-ranked-preserved c =
    places_more c.loop-ranked.places c.insert.new.self c.args.all.now c.loop-ranked.ranked-index c.ranked-item.result
    c.loop-ranked-test.true c.ranked-item.is c.in_ok-insert.ensures.updates.0 c.loop-ranked.invariant

pub returns : goal.returns
returns c =
    subst (λ (all : List RankedEvent). ArePlaces c.loop-ranked.places (map event_of all))
    (all_taken c.args.all.now c.loop-ranked.ranked-index (omega (arith, c.loop-ranked-test.false)))
    c.loop-ranked.invariant
