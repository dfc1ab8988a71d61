use Rattle.std.proofs.Common.{◌+◌, ◌∷◌, sym, ap, subst, ◌∙◌}
use Rattle.uefi_hii.specs.Views.{bytes_left}
use Rattle.uefi_c.proofs.NameUnits.{HasPut, one_put, room_for_character}
use Rattle.uefi_c.proofs.config_name.write_name.Goals as goal

pub put_character-offset-requires : goal.put_character-offset-requires
put_character-offset-requires c =
    let left = c.in-Some.ensures.steps ∙ ap (λ s. c.in-Some.high ∷ s) c.in-Some-next.ensures.steps in
    room_for_character c.args.text.now c.args.buffer.now c.requires.named (bytes_left c.next-in-Some.new.self)
    c.loop-high.buffer c.loop-high.offset c.in-Some.high c.in-Some-next.low c.unit_of.result
    c.in-Some-character_of.character c.requires.room
    (subst (λ s. HasPut c.args.text.now s c.args.buffer.now c.loop-high.buffer c.loop-high.offset) left c.loop-high.invariant)
    (c.unit_of.ensures, c.in-Some-character_of.ensures.of_name.0, c.in-Some-character_of.ensures.of_name.1)

pub loop-high-preserved : goal.loop-high-preserved
loop-high-preserved c =
    let left = c.in-Some.ensures.steps ∙ ap (λ s. c.in-Some.high ∷ s) c.in-Some-next.ensures.steps in
    subst (λ n. HasPut c.args.text.now (bytes_left c.next-in-Some.new.self) c.args.buffer.now
    c.put_character-offset.new.buffer (c.loop-high.offset + n)) (sym c.put_character-offset.ensures.length)
    (one_put c.args.text.now c.args.buffer.now c.requires.named (bytes_left c.next-in-Some.new.self)
    c.loop-high.buffer c.loop-high.offset c.in-Some.high c.in-Some-next.low c.unit_of.result
    c.in-Some-character_of.character c.requires.room
    (subst (λ s. HasPut c.args.text.now s c.args.buffer.now c.loop-high.buffer c.loop-high.offset) left c.loop-high.invariant)
    (c.unit_of.ensures, c.in-Some-character_of.ensures.of_name.0, c.in-Some-character_of.ensures.of_name.1)
    c.put_character-offset.new.buffer c.put_character-offset.ensures.put)
