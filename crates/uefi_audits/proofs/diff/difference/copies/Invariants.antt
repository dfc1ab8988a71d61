use Rattle.std.proofs.Common.{◌≡◌, map, take}
use Rattle.uefi_audits.specs.diff.Views.{numbered_of}
use Rattle.uefi_audits.specs.private.diff.Ranks.{numbered_at}
use Rattle.uefi_audits.proofs.diff.difference.copies.Given as goal

-- They are those of the events so far.
abbrev pub invariant-loop-entry : goal.invariant-loop-entry
invariant-loop-entry l = map numbered_of l.found.items ≡ map numbered_at (take l.entry-index l.all)
