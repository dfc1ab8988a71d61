use Rattle.std.proofs.Common.{arith, sym, ap, subst, ◌∙◌, ◌+◌, ℕ}
use Rattle.uefi_base.specs.Ucs2.{IsCharacter}
use Rattle.uefi_c.proofs.Ucs2Units.{all_put, character_put, is_character, room_for_character}
use Rattle.uefi_c.proofs.ucs2.write_text.Goals as goal

pub returns-in_default : goal.returns-in_default
returns-in_default c = absurd
    (c.in_default.ensures.character
    (subst IsCharacter (sym c.u16_at.ensures)
    (is_character c.args.units.now c.loop-index.index c.requires.text c.loop-index-test.true)))

pub put_character-offset-requires : goal.put_character-offset-requires
put_character-offset-requires c =
    room_for_character c.args.units.now c.args.buffer.now c.loop-index.buffer c.loop-index.index c.loop-index.offset
    c.in-Some.character c.requires.text c.loop-index-test.true c.requires.room c.loop-index.invariant
    (c.in-Some.ensures.character.1 ∙ c.u16_at.ensures)

pub loop-index-preserved : goal.loop-index-preserved
loop-index-preserved c =
    let put = character_put c.args.units.now c.args.buffer.now c.loop-index.buffer c.loop-index.index c.loop-index.offset
    c.in-Some.character c.requires.text c.loop-index-test.true c.requires.room c.loop-index.invariant
    (c.in-Some.ensures.character.1 ∙ c.u16_at.ensures) c.put_character-offset.new.buffer c.put_character-offset.ensures.put in
    record {
      sized = put.sized ∙ ap (λ (n : ℕ). c.loop-index.offset + n) (sym c.put_character-offset.ensures.length);
      within = put.within;
      put = put.put;
    }

pub returns : goal.returns
returns c = all_put c.args.units.now c.args.buffer.now c.loop-index.buffer c.loop-index.index c.loop-index.offset
    (omega (arith, c.loop-index-test.false, c.loop-index.auto.index-end)) c.loop-index.invariant
