use Rattle.std.proofs.Common.{◌≡◌, ◌-◌, ◌*◌, take, drop, flat_map}
use Rattle.std.specs.Int.{w16, to_be_bytes}
use Rattle.uefi_base.specs.Views.{slice_units}
use Rattle.shown.proofs.hex_name.fill_big_endian.Given as goal

abbrev pub invariant-loop-i : goal.invariant-loop-i
invariant-loop-i l = take (2 * (l.i - l.start)) l.bytes
    ≡ flat_map (to_be_bytes w16) (take (l.i - l.start) (drop l.start (slice_units l.units)))
