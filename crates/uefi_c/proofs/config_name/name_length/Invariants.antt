use Rattle.std.proofs.Common.{length}
use Rattle.uefi_hii.specs.Views.{bytes_left}
use Rattle.uefi_c.proofs.NameUnits.{HasCounted}
use Rattle.uefi_c.proofs.config_name.name_length.Given as goal

abbrev pub invariant-loop-high : goal.invariant-loop-high
invariant-loop-high l = HasCounted l.text (bytes_left l.bytes) l.length

abbrev pub decreases-loop-high : goal.decreases-loop-high
decreases-loop-high l = length (bytes_left l.bytes)
