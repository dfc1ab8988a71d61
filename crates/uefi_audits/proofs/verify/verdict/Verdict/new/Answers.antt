use Rattle.std.proofs.Common.{◌∙◌, ap, map}
use Rattle.std.proofs.lemmas.Result.{IfOk-weaker}
use Rattle.uefi_tcg.specs.LogViews.{entry_of}
use Rattle.uefi_audits.specs.KnownStart.{assumed_start}
use Rattle.uefi_audits.specs.verify.Verdict.{compared_at, comparison_of}
use Rattle.uefi_audits.proofs.verify.Agreement.{agrees_at_one}
use Rattle.uefi_audits.proofs.verify.Verdicts.{nearest_is, stated_is}
use Rattle.uefi_audits.proofs.verify.verdict.Verdict.new.Goals as goal

pub returns-then-start-clause-verdict : goal.returns-then-start-clause-verdict
returns-then-start-clause-verdict g c =
    IfOk-weaker c.at.result _ _
    (λ verdict is. stated_is c.args.locality (map entry_of c.args.entries.now) c.args.held.now c.of-start.result
    (comparison_of verdict) c.of-start.ensures c.if-start.true is) c.at.ensures

pub returns-then-start-clause-agreement : goal.returns-then-start-clause-agreement
returns-then-start-clause-agreement g c =
    IfOk-weaker c.at.result _ _
    (λ verdict is. agrees_at_one c.args.locality (map entry_of c.args.entries.now) c.args.held.now
    (comparison_of verdict) is) (returns-then-start-clause-verdict g c)

pub returns-clause-verdict : goal.returns-clause-verdict
returns-clause-verdict g c =
    let entries = map entry_of c.args.entries.now in
    let held = c.args.held.now in
    let first = c.in_ok-at_0.ensures ∙ ap (compared_at entries held) c.assumed.ensures in
    nearest_is c.args.locality entries held c.of-start.result (comparison_of c.in_ok-at_0.at_0)
    (comparison_of c.in_ok-at_3.at_3) (comparison_of c.in_ok-at_4.at_4) (comparison_of c.nearer.result)
    (comparison_of c.nearer-2.result) c.of-start.ensures c.if-start.false first
    (c.in_ok-at_3.ensures (assumed_start 0) first ∙ ap (compared_at entries held) c.assumed-2.ensures)
    (c.in_ok-at_4.ensures (assumed_start 0) first ∙ ap (compared_at entries held) c.assumed-3.ensures)
    c.nearer.ensures c.nearer-2.ensures

pub returns-clause-agreement : goal.returns-clause-agreement
returns-clause-agreement g c =
    agrees_at_one c.args.locality (map entry_of c.args.entries.now) c.args.held.now (comparison_of c.nearer-2.result)
    (returns-clause-verdict g c)
