use Rattle.std.proofs.Common.{◌∙◌, ap, map, sym, subst, arith, drop, ◌++◌}
use Rattle.tcg_event.specs.Tagged.{IsTagged, tagged_bytes}
use Rattle.uefi_c.specs.EventData.{tagged_seen}
use Rattle.uefi_c.proofs.Cursors.{moves, within}
use Rattle.uefi_c.proofs.EventBytes.{some_tagged_bytes}
use Rattle.uefi_c.proofs.WalkSteps.{Passed, concat_map, none_yet, one_more}
use Rattle.uefi_c.proofs.callers.tagged.tagged_by_steps.Goals as goal

pub loop-tagged-init : goal.loop-tagged-init
loop-tagged-init g c = subst (Passed tagged_seen IsTagged tagged_bytes c.args.event_data.now 0)
    (sym c.new-views.ensures.items) (none_yet tagged_seen IsTagged tagged_bytes c.args.event_data.now)

pub loop-tagged-smaller : goal.loop-tagged-smaller
loop-tagged-smaller g c =
    let new = c.uefi_tagged_next.new in
    let stands = c.uefi_tagged_next.ensures.stands c.loop-tagged-test.true in
    let some = some_tagged_bytes (tagged_seen new.out) in
    omega (
      arith,
      moves (tagged_bytes (tagged_seen new.out)) c.args.event_data.now c.loop-tagged.offset new.offset stands some,
      within (tagged_bytes (tagged_seen new.out)) c.args.event_data.now c.loop-tagged.offset new.offset stands some,
    )

pub loop-tagged-preserved : goal.loop-tagged-preserved
loop-tagged-preserved g c =
    let new = c.uefi_tagged_next.new in
    one_more tagged_seen IsTagged tagged_bytes c.args.event_data.now c.loop-tagged.offset new.offset new.out
    (c.uefi_tagged_next.ensures.tagged c.loop-tagged-test.true) (c.uefi_tagged_next.ensures.stands c.loop-tagged-test.true) c.loop-tagged.views.items
    c.push.new.self.items c.in_ok-push.ensures.items c.loop-tagged.invariant

pub returns : goal.returns
returns g c = (
  drop c.loop-tagged.offset c.args.event_data.now,
  record {
    are_tagged = c.loop-tagged.invariant.each;
    in_bytes = c.loop-tagged.invariant.split
        ∙ ap (λ j. j ++ drop c.loop-tagged.offset c.args.event_data.now)
        (sym (concat_map tagged_bytes (map tagged_seen c.loop-tagged.views.items)));
    no_more = c.uefi_tagged_next.ensures.none c.loop-tagged-test.false;
  },
)
