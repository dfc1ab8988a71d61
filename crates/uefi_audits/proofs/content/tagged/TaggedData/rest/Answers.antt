use Rattle.std.proofs.Common.{◌∙◌, ap, sym, subst}
use Rattle.tcg_event.specs.Tagged.{AreTagged}
use Rattle.tcg_event.specs.Views.{tagged_of}
use Rattle.uefi_audits.specs.private.content.Tagged.{same_split}
use Rattle.uefi_audits.proofs.content.TaggedSteps.{none_left, one_less}
use Rattle.uefi_audits.proofs.content.tagged.TaggedData.rest.Goals as goal

pub loop-init : goal.loop-init
loop-init c =
    let tagged = c.new-events.ensures.tagged in
    let view = c.args.self.now in
    let same = ap (λ split. split.1)
    (same_split view.bytes.now (c.new-events.result.events, tagged.0) view.split.0 tagged.1 view.split.1) in
    let are = subst (λ rest. AreTagged view.bytes.now c.new-events.result.events rest) same tagged.1 in
    subst (λ bytes. AreTagged bytes c.new-events.result.events view.split.0.1) (sym c.new-events.ensures.bytes) are

pub loop-preserved : goal.loop-preserved
loop-preserved c =
    one_less c.loop.events.bytes c.next.new.self.bytes c.args.self.now.split.0.1 (tagged_of c.in-Some.field-0)
    c.loop.events.events c.next.new.self.events c.loop.invariant c.in-Some.ensures.first c.in-Some.ensures.bytes

pub returns : goal.returns
returns c =
    c.rest.ensures ∙ c.in_default.ensures.bytes
    ∙ none_left c.loop.events.bytes c.args.self.now.split.0.1 c.loop.events.events c.loop.invariant
    c.in_default.ensures.first.0
