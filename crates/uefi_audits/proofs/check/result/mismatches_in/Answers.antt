use Rattle.std.proofs.Common.{map, refl}
use Rattle.uefi_audits.specs.CheckResult.{if_mismatch}
use Rattle.uefi_audits.specs.private.Counting.{finding_of}
use Rattle.uefi_audits.proofs.Numbered.{all_appended, text_appended}
use Rattle.uefi_audits.proofs.check.result.mismatches_in.Goals as goal

pub loop-index-preserved : goal.loop-index-preserved
loop-index-preserved g c =
    text_appended if_mismatch finding_of c.args.all.now (map finding_of c.args.all.now) c.loop-index.index _ _ _ _ refl
    c.loop-index-test.true c.index-all-index.is c.loop-index.invariant c.in_ok-push_if_mismatch.ensures

pub returns : goal.returns
returns g c =
    all_appended if_mismatch finding_of c.args.all.now (map finding_of c.args.all.now) c.loop-index.index _ _ refl
    c.loop-index-test.false c.loop-index.invariant
