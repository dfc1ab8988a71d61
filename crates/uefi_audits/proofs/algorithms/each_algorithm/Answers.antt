use Rattle.std.proofs.Common.{sym}
use Rattle.uefi_tcg.specs.v2.Views.{table_of}
use Rattle.uefi_audits.proofs.algorithms.Tables.{one_more_row}
use Rattle.uefi_audits.proofs.algorithms.each_algorithm.Goals as goal

pub loop-index-preserved : goal.loop-index-preserved
loop-index-preserved c =
    one_more_row (table_of c.args.table.now) c.loop-index.index (c.in-Some.algorithm.0, c.in-Some.field-0-1)
    c.loop-index.algorithms.items c.push.new.self.items (sym c.in-Some.ensures) c.loop-index.invariant
    c.in_ok-push.ensures.items
