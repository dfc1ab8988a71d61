use Rattle.std.proofs.Common.{arith}
use Rattle.audit_text.proofs.text.CommonPrefix.{up_to_end}
use Rattle.audit_text.proofs.text.diff.change.prefix.common_prefix_length.Goals as goal

pub returns-clause-count : goal.returns-clause-count
returns-clause-count g c =
    up_to_end g.T.PartialEq.eq c.args.old.now c.args.new.now c.loop-index.index c.min-shorter.result c.min-shorter.ensures
    (omega arith) c.loop-index.invariant
