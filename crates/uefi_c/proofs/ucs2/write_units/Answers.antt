use Rattle.std.proofs.Common.{◌+◌, ◌∷◌, [], ◌++◌, length, ap, ◌∙◌, arith}
use Rattle.std.specs.Str.{chars}
use Rattle.std.proofs.lemmas.Iterator.{YieldsList-from_chars}
use Rattle.std.proofs.lemmas.Iterator.Consumers.{YieldsList-turn, YieldsList-end}
use Rattle.uefi_base.specs.Buffer.{put_prefix}
use Rattle.uefi_base.specs.Unaligned.{unit_bytes}
use Rattle.uefi_base.proofs.Characters.{has_unit}
use Rattle.uefi_c.proofs.Ucs2Puts.{one_unit, one_yielded, room_for_unit, unit_fits}
use Rattle.uefi_c.proofs.ucs2.write_units.Goals as goal

pub overflow_cast-c : goal.overflow_cast-c
overflow_cast-c c =
    let next = YieldsList-turn
    (YieldsList-from_chars c.args.text.now c.utf8.text cc) c.loop-c.yielded _ c.loop-c.yielded_by _ _ c.in-Some.c
    c.in-Some.is c.next.ensures.steps in
    omega (arith, has_unit (chars c.args.text.now) (length c.loop-c.yielded) c.in-Some.c c.requires.units next)

pub put-requires : goal.put-requires
put-requires c =
    let next = YieldsList-turn
    (YieldsList-from_chars c.args.text.now c.utf8.text cc) c.loop-c.yielded _ c.loop-c.yielded_by _ _ c.in-Some.c
    c.in-Some.is c.next.ensures.steps in
    omega (
      arith,
      ap length c.to_le_bytes.ensures,
      unit_fits c.loop-c.yielded c.args.buffer.now c.loop-c.buffer c.loop-c.offset (length (chars c.args.text.now) + 1)
          c.loop-c.invariant (omega (arith, next.0)) c.requires.room,
    )

pub loop-c-preserved : goal.loop-c-preserved
loop-c-preserved c =
    let next = YieldsList-turn
    (YieldsList-from_chars c.args.text.now c.utf8.text cc) c.loop-c.yielded _ c.loop-c.yielded_by _ _ c.in-Some.c
    c.in-Some.is c.next.ensures.steps in
    one_yielded c.loop-c.yielded c.args.buffer.now c.loop-c.buffer c.loop-c.offset (length (chars c.args.text.now) + 1)
    c.loop-c.invariant (omega (arith, next.0)) c.requires.room c.put.new.buffer c.to_le_bytes.result c.in-Some.c
    c.put.ensures c.to_le_bytes.ensures

pub put-requires-2 : goal.put-requires-2
put-requires-2 c =
    let end = YieldsList-end
    (YieldsList-from_chars c.args.text.now c.utf8.text cc) c.loop-c.yielded _ c.loop-c.yielded_by _ _ c.in-None.is
    c.next.ensures.steps in
    unit_fits c.loop-c.yielded c.args.buffer.now c.loop-c.buffer c.loop-c.offset (length (chars c.args.text.now) + 1)
    c.loop-c.invariant (omega (arith, end.1)) c.requires.room

pub returns : goal.returns
returns c =
    let end = YieldsList-end
    (YieldsList-from_chars c.args.text.now c.utf8.text cc) c.loop-c.yielded _ c.loop-c.yielded_by _ _ c.in-None.is
    c.next.ensures.steps in
    let room = room_for_unit c.loop-c.yielded c.args.buffer.now c.loop-c.buffer c.loop-c.offset
    (length (chars c.args.text.now) + 1) c.loop-c.invariant (omega (arith, end.1)) c.requires.room in
    let put = one_unit _ c.args.buffer.now c.loop-c.buffer c.put-2.new.buffer c.loop-c.offset 0 c.loop-c.invariant room
    c.put-2.ensures in
    put.put ∙ ap (λ units. put_prefix (unit_bytes (units ++ 0 ∷ [])) c.args.buffer.now) end.0
