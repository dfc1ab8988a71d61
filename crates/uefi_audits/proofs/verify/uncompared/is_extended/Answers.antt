use Rattle.std.proofs.Common.{◌∙◌, rules, tests}
use Rattle.std.proofs.lemmas.Iterator.{YieldsList-from_slice}
use Rattle.std.proofs.lemmas.Iterator.Search.{any_from_yields_List}
use Rattle.uefi_tcg.specs.Entries.{Entry}
use Rattle.uefi_tcg.specs.LogViews.{entry_of}
use Rattle.uefi_tcg.specs.declared.log_entries.LogEntry.{LogEntry}
use Rattle.uefi_audits.specs.verify.Uncompared.{extends}
use Rattle.pcr_replay.proofs.Viewed.{any_view}
use Rattle.uefi_audits.proofs.verify.uncompared.is_extended.Goals as goal

pub returns : goal.returns
returns c =
    any_from_yields_List (λ (entry : LogEntry). extends c.args.pcr (entry_of entry).event) _ _ c.any.result c.any.ensures.ran
    (YieldsList-from_slice c.args.entries.now c.iter.ensures.rest) (λ x b q k. search (rules, tests))
    ∙ any_view (λ (entry : Entry). extends c.args.pcr entry.event) entry_of c.args.entries.now
