use Rattle.std.proofs.Common.{◌==◌, sym, ◌∙◌, arith}
use Rattle.uefi_records.proofs.file.UnitLanes.{stops_in_block, passes_block}
use Rattle.uefi_records.proofs.file.first_zero.first_zero_unit.Goals as goal

pub returns-then-run-lt-LANES : goal.returns-then-run-lt-LANES
returns-then-run-lt-LANES c =
    let before = c.loop-index.invariant in
    record {
      first = sym
          (before.1 ∙ stops_in_block
          (λ unit. unit == 0) c.args.bytes.now c.loop-index.index 16 c.nonzero_run-run.result
          (omega arith) c.nonzero_run-run.ensures (omega arith));
      within = omega arith;
    }

pub loop-index-preserved : goal.loop-index-preserved
loop-index-preserved c =
    let before = c.loop-index.invariant in (
      omega arith,
      before.1
          ∙ passes_block (λ unit. unit == 0) c.args.bytes.now c.loop-index.index 16 c.nonzero_run-run.result
          (omega arith) c.nonzero_run-run.ensures (omega arith),
    )
