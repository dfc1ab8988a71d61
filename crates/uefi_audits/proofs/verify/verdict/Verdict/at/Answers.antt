use Rattle.std.proofs.Common.{◌∙◌, ap, map}
use Rattle.uefi_tcg.specs.LogViews.{entry_of}
use Rattle.pcr_replay.specs.BankReplays.{bank_outcomes_of, replayed}
use Rattle.uefi_audits.specs.verify.Verdict.{comparison_of}
use Rattle.uefi_audits.proofs.verify.Verdicts.{compared_is}
use Rattle.uefi_audits.proofs.verify.verdict.Verdict.at.Goals as goal

pub returns : goal.returns
returns g c =
    compared_is (map entry_of c.args.entries.now) c.args.held.now c.args.start
    (map bank_outcomes_of c.in_ok-replays.replays.items) (comparison_of c.of.result)
    (c.in_ok-replays.ensures ∙ ap (map (replayed c.args.start.start (map entry_of c.args.entries.now)))
    (c.as_slice.ensures.value ∙ c.in_ok-banks.ensures)) c.of.ensures
