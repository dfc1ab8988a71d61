use Rattle.shown.proofs.Appending.{appended_all, appended_more}
use Rattle.uefi_listing.proofs.config.push_nvconfig.Goals as goal

pub loop-pair-preserved : goal.loop-pair-preserved
loop-pair-preserved g c = appended_more _ c.args.nvconfig.now c.loop-pair.pair-index c.pair-item.result _ _ _
    c.loop-pair-test.true c.pair-item.is c.loop-pair.invariant c.in_ok-push_nv_pair.ensures

pub returns : goal.returns
returns g c = appended_all _ c.args.nvconfig.now c.loop-pair.pair-index _ _ c.loop-pair-test.false c.loop-pair.invariant
