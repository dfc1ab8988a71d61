use Rattle.std.proofs.Common.{◌∙◌, sym, arith, length}
use Rattle.std.specs.Str.{chars}
use Rattle.std.proofs.lemmas.Bool.{false≢true}
use Rattle.std.proofs.lemmas.List.{length_push}
use Rattle.std.proofs.lemmas.Iterator.{YieldsList-from_chars}
use Rattle.std.proofs.lemmas.Iterator.Consumers.{YieldsList-turn, YieldsList-end}
use Rattle.uefi_base.proofs.Comparing.{not_nul, agree_more, ended_at_end, ended_at_nul, too_few, other_unit, next_is}
use Rattle.uefi_base.proofs.cstr16.are_characters.Goals.{then-index-units-via-then-index-units, then-index-units-via-else-index-units+then-from}
use Rattle.uefi_base.proofs.cstr16.are_characters.Goals as goal

pub returns-then-character-eq0 : goal.returns-then-character-eq0
returns-then-character-eq0 c =
    let turn = YieldsList-turn (YieldsList-from_chars c.args.text.now c.utf8.text cc) c.loop-character.yielded _
    c.loop-character.yielded_by _ _ c.in-Some.character c.in-Some.is c.next.ensures.steps in
    let here = next_is (chars c.args.text.now) (length c.loop-character.yielded) c.loop-character.index c.in-Some.character
    c.loop-character.invariant.counted turn in
    ended_at_nul c.args.units.now (chars c.args.text.now) c.loop-character.index c.loop-character.invariant.agree
    here.0 (sym here.1 ∙ c.if-character-eq0.true)

pub returns-then-index-units : goal.returns-then-index-units
returns-then-index-units c =
    let turn = YieldsList-turn (YieldsList-from_chars c.args.text.now c.utf8.text cc) c.loop-character.yielded _
    c.loop-character.yielded_by _ _ c.in-Some.character c.in-Some.is c.next.ensures.steps in
    let here = next_is (chars c.args.text.now) (length c.loop-character.yielded) c.loop-character.index c.in-Some.character
    c.loop-character.invariant.counted turn in
    let kept = not_nul (chars c.args.text.now) c.loop-character.index c.in-Some.character here.1 c.if-character-eq0.false in (
      λ is. absurd (false≢true is),
      λ same. absurd (elim c.then-index-units.branch [
        | then-index-units-via-then-index-units w ↦
            too_few c.args.units.now (chars c.args.text.now) c.loop-character.index c.loop-character.invariant.agree here.0
            kept w.if-index-units.true same
        | then-index-units-via-else-index-units+then-from w ↦
            other_unit c.args.units.now (chars c.args.text.now) c.loop-character.index c.loop-character.invariant.agree here.0
            kept (λ unit. w.if-from.true (w.from.ensures ∙ unit ∙ sym (w.from-else-index-units.ensures ∙ here.1))) same
      ]),
    )

pub loop-character-preserved : goal.loop-character-preserved
loop-character-preserved c =
    let turn = YieldsList-turn (YieldsList-from_chars c.args.text.now c.utf8.text cc) c.loop-character.yielded _
    c.loop-character.yielded_by _ _ c.in-Some.character c.in-Some.is c.next.ensures.steps in
    let here = next_is (chars c.args.text.now) (length c.loop-character.yielded) c.loop-character.index c.in-Some.character
    c.loop-character.invariant.counted turn in
    let kept = not_nul (chars c.args.text.now) c.loop-character.index c.in-Some.character here.1 c.if-character-eq0.false in
    let within = c.loop-character.invariant.agree.within in
    record {
      agree = agree_more c.args.units.now (chars c.args.text.now) c.loop-character.index c.loop-character.invariant.agree
          (omega (arith, within, c.if-index-units.false)) here.0 kept
          (sym c.from.ensures ∙ c.if-from.false ∙ c.from-else-index-units.ensures ∙ here.1);
      counted = omega (arith, c.loop-character.invariant.counted, length_push c.loop-character.yielded c.in-Some.character);
    }

pub returns : goal.returns
returns c =
    let end = YieldsList-end (YieldsList-from_chars c.args.text.now c.utf8.text cc) c.loop-character.yielded _
    c.loop-character.yielded_by _ _ c.in-None.is c.next.ensures.steps in
    ended_at_end c.args.units.now (chars c.args.text.now) c.loop-character.index c.loop-character.invariant.agree
    (c.loop-character.invariant.counted ∙ end.1)
