use Rattle.std.proofs.Common.{rules, tests}
use Rattle.std.proofs.lemmas.Iterator.{YieldsList-from_slice}
use Rattle.std.proofs.lemmas.Iterator.Search.{any_from_yields_List}
use Rattle.pcr_replay.specs.declared.bank.Bank.{Bank}
use Rattle.pcr_replay.specs.Replay.{has_digest}
use Rattle.uefi_tcg.specs.LogViews.{event_of}
use Rattle.pcr_replay.specs.Banks.{all_banks}
use Rattle.uefi_audits.proofs.check.has_digests.Goals as goal

pub returns : goal.returns
returns c =
    any_from_yields_List (λ (bank : Bank). has_digest bank (event_of c.args.event.now)) _ _ c.any.result c.any.ensures.ran
    (YieldsList-from_slice all_banks c.iter.ensures.rest) (λ x b q k. search (rules, tests))
