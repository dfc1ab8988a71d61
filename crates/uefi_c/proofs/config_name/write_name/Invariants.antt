use Rattle.std.proofs.Common.{length}
use Rattle.uefi_hii.specs.Views.{bytes_left}
use Rattle.uefi_c.proofs.NameUnits.{HasPut}
use Rattle.uefi_c.proofs.config_name.write_name.Given as goal

abbrev pub invariant-loop-high : goal.invariant-loop-high
invariant-loop-high l = HasPut l.text (bytes_left l.bytes) l.initial.buffer l.buffer l.offset

abbrev pub decreases-loop-high : goal.decreases-loop-high
decreases-loop-high l = length (bytes_left l.bytes)
