use Rattle.std.proofs.Common.{◌≡◌, List, map, subst}
use Rattle.std.proofs.lemmas.Result.{IfOk-weaker}
use Rattle.uefi_audits.specs.declared.diff.counterparts.RankedEvent.{RankedEvent}
use Rattle.uefi_audits.specs.private.diff.Ranks.{ArePlaces, event_of, numbered_at, paired_by, paired_of}
use Rattle.uefi_audits.specs.private.diff.Keys.{key_by}
use Rattle.uefi_audits.proofs.diff.Counts.{are_paired}
use Rattle.uefi_audits.proofs.diff.counterparts.counterparts.Goals as goal

pub returns : goal.returns
returns c =
    IfOk-weaker c.each_paired.result _ _
    (λ found is. are_paired (key_by c.args.by) (map numbered_at c.args.events.now) (map numbered_at c.args.others.now)
    c.in_ok-places.places c.in_ok-events.events.items c.in_ok-others.others.items (map paired_of found.items)
    c.in_ok-events.ensures c.in_ok-others.ensures
    (subst (λ (all : List RankedEvent). ArePlaces c.in_ok-places.places (map event_of all)) c.as_slice.ensures.value
    c.in_ok-places.ensures)
    (subst (λ (all : List RankedEvent). map paired_of found.items ≡ map (paired_by c.in_ok-places.places) all)
    c.as_slice-2.ensures.value is))
    c.each_paired.ensures
