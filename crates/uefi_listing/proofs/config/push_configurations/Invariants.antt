use Rattle.std.proofs.Common.{length, string_bytes}
use Rattle.uefi_hii.specs.Views.{uncut_pairs}
use Rattle.uefi_listing.proofs.ConfigLines.{HasListed}
use Rattle.uefi_listing.proofs.config.push_configurations.Given as goal

-- The lines of the first groups were appended.
abbrev pub invariant-loop-item : goal.invariant-loop-item
invariant-loop-item g l =
    HasListed g.row.A.Denot (uncut_pairs l.fn.items) (uncut_pairs l.items) (string_bytes l.initial.text)
    (string_bytes l.text) l.count

abbrev pub decreases-loop-item : goal.decreases-loop-item
decreases-loop-item g l = length (uncut_pairs l.items)
