use Rattle.std.proofs.Common.{arith}
use Rattle.uefi_path_text.proofs.arguments.Pairs.{one_more_pair, all_pairs}
use Rattle.uefi_path_text.proofs.parse.value.put_pairs.Goals as goal

pub loop-i-preserved : goal.loop-i-preserved
loop-i-preserved c = one_more_pair c.loop-i.bytes c.args.text.now c.loop-i.i c.byte_of_digits.result (omega arith) (omega arith) c.loop-i.invariant c.byte_of_digits.ensures

pub returns : goal.returns
returns c = all_pairs c.loop-i.bytes c.args.text.now c.loop-i.i (omega arith) (omega arith) c.loop-i.invariant
