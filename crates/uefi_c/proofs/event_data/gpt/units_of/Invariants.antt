use Rattle.std.proofs.Common.{◌≡◌, length, take}
use Rattle.uefi_base.specs.Views.{slice_units}
use Rattle.uefi_c.proofs.event_data.gpt.units_of.Given as goal

-- The first units were copied, and there is room for 36.
abbrev pub invariant-loop-i : goal.invariant-loop-i
invariant-loop-i l = record {
  copied : take l.i l.units ≡ take l.i (slice_units l.name);
  count : length l.units ≡ 36;
}
