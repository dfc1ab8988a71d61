use Rattle.audit_text.proofs.text.CommonPrefix.{AreCommon}
use Rattle.audit_text.proofs.text.diff.change.prefix.common_prefix_length.Given as goal

-- The items so far are common.
abbrev pub invariant-loop-index : goal.invariant-loop-index
invariant-loop-index g l = AreCommon g.T.PartialEq.eq l.old l.new l.index
