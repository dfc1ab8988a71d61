use Rattle.std.proofs.Common.{◌-◌, ◌≤◌, take}
use Rattle.std.specs.Fmt.{HasWritten, IsPlainFormatter}
use Rattle.uefi_base.specs.Views.{slice_units}
use Rattle.shown.specs.HexName.{units_hex}
use Rattle.shown.proofs.hex_name.write_units.Given as goal

abbrev pub invariant-loop-start : goal.invariant-loop-start
invariant-loop-start g l = record {
  within : l.start ≤ l.count;
  written : IsPlainFormatter l.initial.f
      → HasWritten g.W.Write.write_str_gives l.initial.f (units_hex (take l.start (slice_units l.units))) l.f;
}

abbrev pub decreases-loop-start : goal.decreases-loop-start
decreases-loop-start g l = l.count - l.start
