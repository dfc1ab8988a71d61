use Rattle.std.proofs.Common.{map}
use Rattle.uefi_audits.specs.private.diff.Ranks.{pair_of}
use Rattle.uefi_audits.proofs.diff.Moves.{Ascend}
use Rattle.uefi_audits.proofs.diff.moved.first_moved.Given as goal

-- The pairs so far ascend up to the last one.
abbrev pub invariant-loop-pair : goal.invariant-loop-pair
invariant-loop-pair l = Ascend (map pair_of l.pairs) l.pair-index l.last
