use Rattle.std.proofs.Common.{◌≡◌, take}
use Rattle.uefi_base.specs.Buffer.{put_at}
use Rattle.uefi_base.specs.Unaligned.{unit_bytes}
use Rattle.uefi_base.specs.Views.{slice_units}
use Rattle.uefi_node.proofs.write.put_units.Given as goal

abbrev pub invariant-loop-i : goal.invariant-loop-i
invariant-loop-i l = l.buffer ≡ put_at l.offset (unit_bytes (take l.i (slice_units l.units))) l.initial.buffer
