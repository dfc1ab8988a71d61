-- All numbers are short if those are that are left.
use Rattle.std.proofs.Common.{◌≡◌, ◌≤◌, ◌+◌, length}
use Rattle.std.specs.List.{list_all}
use Rattle.uefi_path_text.specs.parse.Parts.{cut_at}
use Rattle.uefi_path_text.specs.parse.Ipv6.{is_short}
use Rattle.uefi_path_text.specs.private.FromText.{rest_parts, rest_length}
use Rattle.uefi_path_text.proofs.parse.ipv6.find_long.Given as goal

abbrev pub invariant-loop-rest : goal.invariant-loop-rest
invariant-loop-rest l =
    (list_all is_short (cut_at 0x2e l.text) ≡ list_all is_short (rest_parts 0x2e l.rest))
    × (rest_length l.rest ≤ length l.text + 1)

abbrev pub decreases-loop-rest : goal.decreases-loop-rest
decreases-loop-rest l = rest_length l.rest
