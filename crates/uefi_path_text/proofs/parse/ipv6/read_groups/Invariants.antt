-- The groups so far are read.
use Rattle.uefi_path_text.specs.private.FromText.{rest_length}
use Rattle.uefi_path_text.proofs.arguments.Groups.{AreGroups}
use Rattle.uefi_path_text.proofs.parse.ipv6.read_groups.Given as goal

abbrev pub invariant-loop-rest : goal.invariant-loop-rest
invariant-loop-rest l = AreGroups l.text l.side l.rest l.room

abbrev pub decreases-loop-rest : goal.decreases-loop-rest
decreases-loop-rest l = rest_length l.rest
