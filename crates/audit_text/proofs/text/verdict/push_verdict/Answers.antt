use Rattle.std.proofs.Common.{◌≡◌, ◌∙◌, ◌++◌, List, false, subst, string_bytes, sym}
use Rattle.std.specs.Prelude.{flat_map}
use Rattle.std.proofs.lemmas.List.{take_all}
use Rattle.uefi_audits.specs.declared.verify.held.HeldPcr.{HeldPcr}
use Rattle.uefi_audits.specs.verify.Verdict.{comparison_of, is_agreement}
use Rattle.audit_text.specs.text.Verdict.{line_of}
use Rattle.audit_text.proofs.text.Appending.{lines_upto}
use Rattle.audit_text.proofs.text.verdict.push_verdict.Goals as goal

pub loop-pcr-preserved : goal.loop-pcr-preserved
loop-pcr-preserved g c =
    let line : HeldPcr → List _ = line_of c.args.name.now (comparison_of c.args.verdict.now) in
    let item = c.pcr-item.result in
    lines_upto line c.args.held.now c.loop-pcr.pcr-index item
    (string_bytes c.args.text.now) (string_bytes c.loop-pcr.text) (string_bytes c.push_if_disagreeing.new.text)
    c.loop-pcr-test.true c.loop-pcr.invariant
    (subst (λ (held : HeldPcr). string_bytes c.push_if_disagreeing.new.text ≡ string_bytes c.loop-pcr.text ++ line held)
    c.pcr-item.is c.in_ok-push_if_disagreeing.ensures)

pub returns : goal.returns
returns g c =
    let line : HeldPcr → List _ = line_of c.args.name.now (comparison_of c.args.verdict.now) in
    let differs : is_agreement (comparison_of c.args.verdict.now) ≡ false = sym c.is_agreement.ensures ∙ c.if-is_agreement.false in
    rw differs (subst (λ (held : List HeldPcr). string_bytes c.loop-pcr.text ≡ string_bytes c.args.text.now ++ flat_map line held)
    (take_all c.loop-pcr.pcr-index c.args.held.now c.loop-pcr-test.false) c.loop-pcr.invariant)
