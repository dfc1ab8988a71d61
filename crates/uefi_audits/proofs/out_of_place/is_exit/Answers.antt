use Rattle.std.proofs.Common.{rules, tests}
use Rattle.std.proofs.lemmas.Iterator.{YieldsList-from_slice}
use Rattle.std.proofs.lemmas.Iterator.Search.{any_from_yields_List}
use Rattle.pcr_replay.specs.declared.bank.Bank.{Bank}
use Rattle.pcr_replay.specs.Banks.{all_banks}
use Rattle.pcr_replay.specs.Measured.{is_hash_of}
use Rattle.uefi_tcg.specs.LogViews.{event_of}
use Rattle.uefi_audits.specs.OutOfPlace.{exit_text}
use Rattle.uefi_audits.proofs.out_of_place.is_exit.Goals as goal

pub returns : goal.returns
returns c =
    any_from_yields_List (λ (bank : Bank). is_hash_of bank exit_text (event_of c.args.event.now)) _ _ c.any.result c.any.ensures.ran
    (YieldsList-from_slice all_banks c.iter.ensures.rest) (λ x b q k. search (rules, tests))
