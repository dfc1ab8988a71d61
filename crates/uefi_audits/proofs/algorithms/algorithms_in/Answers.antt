use Rattle.std.proofs.Common.{rules}
use Rattle.pcr_replay.specs.ReadLogs.{table_in}
use Rattle.uefi_audits.proofs.algorithms.Tables.{are_algorithms}
use Rattle.uefi_audits.proofs.algorithms.algorithms_in.Goals as goal

pub returns : goal.returns
returns c =
    are_algorithms (table_in c.args.read.now) c.in_ok-algorithms.algorithms.items c.sort.new.self.items
    c.dedup.new.self.items (search rules) c.sort.ensures.permutation c.in_ok-sort.ensures.sorted
    c.dedup.ensures.filtered
