use Rattle.std.proofs.Common.{arith}
use Rattle.uefi_hii.proofs.FirstByte.{finds_in_block, not_in_block}
use Rattle.uefi_hii.proofs.finding.index_of.Goals as goal

pub returns-in-Some : goal.returns-in-Some
returns-in-Some c =
    finds_in_block c.args.byte c.loop-index.index 16 c.args.bytes.now (omega arith) c.in-Some.lane c.in-Some.ensures
    c.loop-index.invariant.none_before

pub loop-index-preserved : goal.loop-index-preserved
loop-index-preserved c = record {
  within = omega arith;
  none_before = not_in_block c.args.byte c.loop-index.index 16 c.args.bytes.now (omega arith) c.in_default.ensures
      c.loop-index.invariant.none_before;
}
