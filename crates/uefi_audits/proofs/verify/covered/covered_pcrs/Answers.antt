use Rattle.std.proofs.Common.{◌≡◌, ◌∙◌, ◌++◌, List, ap, append_assoc, append-nil, rules, subst, sym}
use Rattle.std.specs.Prelude.{flat_map}
use Rattle.tpm_quote.specs.Views.{selection_of, selections_left}
use Rattle.uefi_audits.specs.declared.verify.named.NamedPcr.{NamedPcr}
use Rattle.uefi_audits.specs.verify.Covered.{covered_by}
use Rattle.uefi_audits.proofs.verify.covered.covered_pcrs.Goals as goal

pub loop-selection-preserved : goal.loop-selection-preserved
loop-selection-preserved g c =
    let all = flat_map covered_by (selections_left c.into_iter-selection-iterator.result) in
    let before = subst (λ left. c.loop-selection.covered.items ++ flat_map covered_by left ≡ all) c.in-Some.ensures.steps
    c.loop-selection.invariant in
    let others = flat_map covered_by (selections_left c.next.new.self) in
    ap (λ (covered : List NamedPcr). covered ++ others) c.in_ok-push_selected.ensures
    ∙ append_assoc c.loop-selection.covered.items (covered_by (selection_of c.in-Some.selection)) others ∙ before

pub returns : goal.returns
returns g c =
    let all = flat_map covered_by (selections_left c.into_iter-selection-iterator.result) in
    let done = subst (λ left. c.loop-selection.covered.items ++ flat_map covered_by left ≡ all) c.in-None.ensures.steps.0
    c.loop-selection.invariant in
    sym (append-nil c.loop-selection.covered.items) ∙ done ∙ ap (flat_map covered_by) (search rules)
