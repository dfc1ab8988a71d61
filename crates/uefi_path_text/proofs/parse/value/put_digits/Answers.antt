use Rattle.std.proofs.Common.{arith, ap, length}
use Rattle.uefi_path_text.specs.parse.Values.{shape_bytes, offsets}
use Rattle.uefi_path_text.proofs.arguments.Shapes.{digits_at_item, all_written}
use Rattle.uefi_path_text.proofs.parse.value.put_digits.Goals as goal

pub bounds-text-offset : goal.bounds-text-offset
bounds-text-offset c =
    let digits = digits_at_item c.args.shape c.args.text.now c.offsets-offset-items.result.now c.loop-i.i c.offsets-offset-items.ensures c.requires.shape c.loop-i-test.true in
    omega (arith, digits.within)

pub overflow_add-offset : goal.overflow_add-offset
overflow_add-offset c =
    let digits = digits_at_item c.args.shape c.args.text.now c.offsets-offset-items.result.now c.loop-i.i c.offsets-offset-items.ensures c.requires.shape c.loop-i-test.true in
    omega (arith, digits.within)

pub bounds-text-offset-in-loop-i : goal.bounds-text-offset-in-loop-i
bounds-text-offset-in-loop-i c =
    let digits = digits_at_item c.args.shape c.args.text.now c.offsets-offset-items.result.now c.loop-i.i c.offsets-offset-items.ensures c.requires.shape c.loop-i-test.true in
    digits.within

pub byte_of_digits-requires-clause-high : goal.byte_of_digits-requires-clause-high
byte_of_digits-requires-clause-high c =
    let digits = digits_at_item c.args.shape c.args.text.now c.offsets-offset-items.result.now c.loop-i.i c.offsets-offset-items.ensures c.requires.shape c.loop-i-test.true in
    digits.high

pub byte_of_digits-requires-clause-low : goal.byte_of_digits-requires-clause-low
byte_of_digits-requires-clause-low c =
    let digits = digits_at_item c.args.shape c.args.text.now c.offsets-offset-items.result.now c.loop-i.i c.offsets-offset-items.ensures c.requires.shape c.loop-i-test.true in
    digits.low

pub returns : goal.returns
unfolding shape_bytes
returns c = all_written c.loop-i.bytes c.args.text.now (offsets c.args.shape) c.loop-i.i c.loop-i.invariant (omega (arith, ap length c.offsets-offset-items.ensures)) (omega (arith, ap length c.offsets-offset-items.ensures))
