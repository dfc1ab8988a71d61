use Rattle.std.proofs.Common.{◌≡◌, ℕ, ◌<◌, map}
use Rattle.uefi_audits.specs.diff.Differences.{compared_at}
use Rattle.uefi_audits.specs.diff.Views.{parts_of}
use Rattle.uefi_audits.specs.private.diff.Ranks.{numbered_at}
use Rattle.uefi_audits.proofs.diff.pcr.first_difference.Given as goal

-- The events before this place are the same.
abbrev pub invariant-loop-at : goal.invariant-loop-at
invariant-loop-at l =
    (k : ℕ) → k < l.at → compared_at (parts_of l.parts) (map numbered_at l.old) k
    ≡ compared_at (parts_of l.parts) (map numbered_at l.new) k
