use Rattle.std.proofs.Common.{map, refl}
use Rattle.uefi_tcg.specs.LogViews.{entry_of}
use Rattle.uefi_audits.specs.Ignored.{ignored_event}
use Rattle.uefi_audits.proofs.Numbered.{all_appended, text_appended}
use Rattle.uefi_audits.proofs.ignored.ignored_events.Goals as goal

pub loop-index-preserved : goal.loop-index-preserved
loop-index-preserved g c =
    text_appended ignored_event entry_of c.args.entries.now (map entry_of c.args.entries.now) c.loop-index.index _ _ _ _ refl
    c.loop-index-test.true c.index-entries-index.is c.loop-index.invariant c.in_ok-push_if_ignored.ensures

pub returns : goal.returns
returns g c =
    all_appended ignored_event entry_of c.args.entries.now (map entry_of c.args.entries.now) c.loop-index.index _ _ refl
    c.loop-index-test.false c.loop-index.invariant
