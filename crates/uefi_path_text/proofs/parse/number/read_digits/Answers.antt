use Rattle.std.proofs.Common.{arith}
use Rattle.uefi_path_text.proofs.arguments.Numerals.{none_below_from_digit, nothing_read, read_one_more}
use Rattle.uefi_path_text.proofs.parse.number.read_digits.Goals as goal

pub loop-offset-init : goal.loop-offset-init
loop-offset-init c = nothing_read c.args.radix c.args.most c.args.text.now

pub loop-offset-preserved : goal.loop-offset-preserved
loop-offset-preserved c = read_one_more c.args.radix c.args.most c.loop-offset.number c.in-Some.next c.loop-offset.offset c.args.text.now c.loop-offset-test.true c.loop-offset.invariant c.in-Some.ensures.digit.0 c.in-Some.ensures.digit.1 c.in-Some.ensures.few

pub returns-in_default-clause-err : goal.returns-in_default-clause-err
returns-in_default-clause-err c = none_below_from_digit c.args.radix c.args.most c.loop-offset.number c.loop-offset.offset c.args.text.now (omega arith) c.loop-offset-test.true c.loop-offset.invariant c.in_default.ensures.none
