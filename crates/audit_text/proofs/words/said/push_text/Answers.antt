use Rattle.std.proofs.Common.{◌∙◌, ◌++◌, List, ℕ, ap, drop, length, string_bytes, take}
use Rattle.std.proofs.lemmas.List.{take_all}
use Rattle.std.specs.Prelude.{min}
use Rattle.std.specs.List.{flat_map}
use Rattle.std.specs.Str.{chars}
use Rattle.std.proofs.lemmas.Result.{on_ok_weaker}
use Rattle.audit_text.specs.words.Said.{shown_one, shown_text}
use Rattle.audit_text.proofs.words.FirstItems.{first_appended}
use Rattle.audit_text.proofs.words.said.push_text.Goals as goal

pub returns : goal.returns
unfolding shown_text
returns c =
    let all = c.as_slice-all.ensures.value ∙ c.in_ok-characters.ensures in
    on_ok_weaker c.push_more.result
    (λ others. first_appended (chars c.args.said.now) _ _ 1000 c.min.result
    (c.min.ensures ∙ ap (λ (xs : List ℕ). min 1000 (length xs)) all)
    (c.split_at.ensures.front ∙ ap (take c.min.result) all) (c.split_at.ensures.back ∙ ap (drop c.min.result) all)
    (flat_map shown_one) _ _ _ (c.loop-character.invariant ∙ ap (λ (xs : List ℕ). string_bytes c.args.text.now ++ flat_map shown_one xs)
    (take_all c.loop-character.character-index _ c.loop-character-test.false)) others) c.push_more.ensures
