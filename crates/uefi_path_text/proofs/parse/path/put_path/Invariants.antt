use Rattle.std.proofs.Common.{◌≡◌, ◌+◌, List, length}
use Rattle.uefi_base.specs.Buffer.{put_prefix}
use Rattle.uefi_path.specs.Node.{Node, joined, IsEndEntire}
use Rattle.uefi_path.specs.Path.{AreBefore}
use Rattle.uefi_path_text.proofs.reading.TextPaths.{HasTaken}
use Rattle.uefi_path_text.proofs.parse.path.put_path.Given as goal

-- The nodes that were taken are written, and none of them ends a path.
abbrev pub invariant-loop-node : goal.invariant-loop-node
invariant-loop-node l =
    ((done : List Node) × HasTaken l.text l.nodes.place l.nodes.rest.now done × AreBefore IsEndEntire done
    × (l.end ≡ length (joined done)) × (l.buffer ≡ put_prefix (joined done) l.initial.buffer))
    × (l.nodes.offset + length l.nodes.rest.now ≡ length l.text)

abbrev pub decreases-loop-node : goal.decreases-loop-node
decreases-loop-node l = length l.nodes.rest.now
