use Rattle.std.proofs.Common.{◌∙◌, ap, map}
use Rattle.uefi_tcg.specs.LogViews.{entry_of}
use Rattle.pcr_replay.specs.BankReplays.{bank_outcomes_of}
use Rattle.uefi_audits.specs.verify.Banks.{held_banks}
use Rattle.uefi_audits.specs.verify.Verdict.{comparison_of}
use Rattle.uefi_audits.proofs.verify.Verdicts.{compared_is}
use Rattle.uefi_audits.proofs.verify.verdict.Verdict.restarted.Goals as goal

pub returns : goal.returns
returns g c = λ other same.
    compared_is (map entry_of c.args.entries.now) c.args.held.now c.args.start
    (map bank_outcomes_of c.in_ok-replays.replays.items) (comparison_of c.of.result)
    (c.in_ok-replays.ensures other.start (held_banks c.args.held.now)
    (ap (map bank_outcomes_of) c.as_slice.ensures.value ∙ ap (λ it. it.replays) same)) c.of.ensures
