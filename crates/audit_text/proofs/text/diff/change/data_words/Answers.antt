use Rattle.std.proofs.Common.{◌≡◌, ◌∙◌, List, ℕ, ◌++◌, [], ap, refl, sym}
use Rattle.std.specs.Prelude.{Bool, true, false, codes, if◌then◌else◌}
use Rattle.std.specs.Str.{bytes_eq}
use Rattle.std.proofs.lemmas.Result.{IfOk-weaker}
use Rattle.uefi_audits.specs.diff.Views.{numbered_of}
use Rattle.audit_text.specs.text.Change.{are_uncovered, data_change, data_of, data_words}
use Rattle.audit_text.proofs.text.diff.change.data_words.Goals as goal

-- The words of data that differ and that no digest covers.
remarked : (same uncovered : Bool) (words remark : List ℕ) → same ≡ false → uncovered ≡ true
    → words ++ remark ≡ (if same then [] else if uncovered then words ++ remark else words)
remarked true uncovered words remark differ none = cc
remarked false true words remark differ none = refl
remarked false false words remark differ none = cc

pub returns : goal.returns
unfolding data_words
returns c =
    let old = numbered_of c.args.old.now in
    let new = numbered_of c.args.new.now in
    let remark = codes " (no digest covers this)" in
    let differ = sym (c.eq.ensures ∙ ap (λ bytes. bytes_eq bytes c.event_data-2.result.now) c.event_data.ensures
    ∙ ap (bytes_eq (data_of old)) c.event_data-2.ensures) ∙ c.if-eq.false in
    IfOk-weaker c.format.result _ _ (λ text is. is ∙ ap (λ words. words ++ remark) c.in_ok-words.ensures
    ∙ remarked (bytes_eq (data_of old) (data_of new)) (are_uncovered old new) (data_change old new) remark
    differ (sym c.are_uncovered.ensures ∙ c.if-not-are_uncovered.false)) c.format.ensures.ok
