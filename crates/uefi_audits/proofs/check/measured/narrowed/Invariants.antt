use Rattle.std.proofs.Common.{◌≡◌, ◌++◌, length}
use Rattle.uefi_audits.specs.Check.{widened}
use Rattle.uefi_audits.proofs.check.measured.narrowed.Given as goal

-- The bytes so far are those of the units before the rest.
abbrev pub invariant-loop-byte : goal.invariant-loop-byte
invariant-loop-byte g l = l.units ≡ widened l.bytes.items ++ l.rest

abbrev pub decreases-loop-byte : goal.decreases-loop-byte
decreases-loop-byte g l = length l.rest
