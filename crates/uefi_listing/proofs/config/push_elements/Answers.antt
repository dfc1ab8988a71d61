use Rattle.shown.proofs.Appending.{appended_all, appended_more}
use Rattle.uefi_listing.proofs.config.push_elements.Goals as goal

pub loop-element-preserved : goal.loop-element-preserved
loop-element-preserved g c = appended_more _ c.args.elements.now c.loop-element.element-index
    c.element-item.result _ _ _ c.loop-element-test.true c.element-item.is c.loop-element.invariant
    c.in_ok-push_element.ensures

pub returns : goal.returns
returns g c = appended_all _ c.args.elements.now c.loop-element.element-index _ _ c.loop-element-test.false
    c.loop-element.invariant
