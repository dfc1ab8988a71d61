use Rattle.std.proofs.Common.{rules, tests}
use Rattle.std.proofs.lemmas.Iterator.{YieldsList-from_slice}
use Rattle.std.proofs.lemmas.Iterator.Search.{any_from_yields_List}
use Rattle.uefi_audits.specs.Ignored.{is_no_pcr}
use Rattle.uefi_audits.specs.declared.ignored.IgnoredEvent.{IgnoredEvent}
use Rattle.uefi_audit.proofs.replay.has_no_pcr.Goals as goal

pub returns : goal.returns
returns c =
    any_from_yields_List (λ (event : IgnoredEvent). is_no_pcr event.why) _ _ c.any.result c.any.ensures.ran
    (YieldsList-from_slice c.args.events.now c.iter.ensures.rest) (λ x b q k. search (rules, tests))
