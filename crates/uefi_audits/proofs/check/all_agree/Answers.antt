use Rattle.std.proofs.Common.{◌++◌, rules, tests}
use Rattle.std.proofs.lemmas.Iterator.{YieldsList-from_slice}
use Rattle.std.proofs.lemmas.Iterator.Search.{all_from_yields_List}
use Rattle.uefi_tcg.specs.LogViews.{event_of}
use Rattle.pcr_replay.specs.Banks.{all_banks}
use Rattle.uefi_audits.specs.Check.{agrees}
use Rattle.uefi_audits.proofs.check.all_agree.Goals as goal

pub returns : goal.returns
returns c =
    all_from_yields_List (agrees (c.args.first.now ++ c.args.second.now) (event_of c.args.event.now)) _ _ c.all.result
    c.all.ensures.ran (YieldsList-from_slice all_banks c.iter.ensures.rest) (λ x b q k. search (rules, tests))
