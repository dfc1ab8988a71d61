use Rattle.std.proofs.Common.{length}
use Rattle.std.specs.Prelude.{string_bytes}
use Rattle.uefi_hii.specs.Hex.{hex}
use Rattle.std.specs.Slice.Iter.{iter_rest}
use Rattle.uefi_hii.proofs.Names.{HasNamed}
use Rattle.uefi_hii.proofs.configuration.ConfigurationString.parse_string_from_hex.Given as goal

abbrev pub invariant-loop-high : goal.invariant-loop-high
invariant-loop-high g l = HasNamed (hex l.text) (iter_rest l.bytes) (string_bytes l.name)

abbrev pub decreases-loop-high : goal.decreases-loop-high
decreases-loop-high g l = length (iter_rest l.bytes)
