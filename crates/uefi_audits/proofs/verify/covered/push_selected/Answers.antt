use Rattle.std.proofs.Common.{◌≡◌, ◌∙◌, ◌++◌, ◌∷◌, [], ℕ, List, ap, append_assoc, append-nil, map, rules, subst, sym}
use Rattle.tpm_quote.specs.Views.{pcr_of, pcrs_left, selection_of}
use Rattle.uefi_audits.specs.declared.verify.named.NamedPcr.{NamedPcr}
use Rattle.uefi_audits.specs.verify.Covered.{covered_by, named_in}
use Rattle.uefi_audits.proofs.verify.covered.push_selected.Goals as goal

pub loop-pcr-preserved : goal.loop-pcr-preserved
loop-pcr-preserved g c =
    let named : ℕ → NamedPcr = λ pcr. record { bank = c.in-Some.bank; pcr = pcr } in
    let all = c.args.covered.now.items ++ map named (pcrs_left c.into_iter-pcr-iterator.result) in
    let before = subst (λ left. c.loop-pcr.covered.items ++ map named left ≡ all) c.in-Some-pcr.ensures.steps c.loop-pcr.invariant in
    let others = map named (pcrs_left c.next.new.self) in
    ap (λ (covered : List NamedPcr). covered ++ others) c.in_ok-push.ensures.items
    ∙ append_assoc c.loop-pcr.covered.items (named (pcr_of c.in-Some-pcr.pcr) ∷ []) others ∙ before

pub returns : goal.returns
unfolding named_in
returns g c =
    let named : ℕ → NamedPcr = λ pcr. record { bank = c.in-Some.bank; pcr = pcr } in
    let all = c.args.covered.now.items ++ map named (pcrs_left c.into_iter-pcr-iterator.result) in
    let done = subst (λ left. c.loop-pcr.covered.items ++ map named left ≡ all) c.in-None.ensures.steps.0 c.loop-pcr.invariant in
    let same : map named (pcrs_left c.into_iter-pcr-iterator.result) ≡ covered_by (selection_of c.args.selection.now) = search rules in
    sym (append-nil c.loop-pcr.covered.items) ∙ done ∙ ap (λ more. c.args.covered.now.items ++ more) same
