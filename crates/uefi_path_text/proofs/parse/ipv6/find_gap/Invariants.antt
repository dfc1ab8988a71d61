-- There is no `::` so far.
use Rattle.uefi_path_text.proofs.arguments.Groups.{HasGapFrom}
use Rattle.uefi_path_text.proofs.parse.ipv6.find_gap.Given as goal

abbrev pub invariant-loop-offset : goal.invariant-loop-offset
invariant-loop-offset l = HasGapFrom l.text l.offset
