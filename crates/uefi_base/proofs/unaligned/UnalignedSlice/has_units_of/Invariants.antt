use Rattle.std.proofs.Common.{◌≡◌, ◌<◌, ℕ, get_or}
use Rattle.uefi_base.specs.Views.{slice_units}
use Rattle.uefi_base.proofs.unaligned.UnalignedSlice.has_units_of.Given as goal

abbrev pub invariant-loop-i : goal.invariant-loop-i
invariant-loop-i l = (k : ℕ) → k < l.i → get_or (slice_units l.self) k 0 ≡ get_or (slice_units l.other) k 0
