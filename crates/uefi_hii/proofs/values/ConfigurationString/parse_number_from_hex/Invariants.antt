use Rattle.uefi_hii.specs.Hex.{hex}
use Rattle.uefi_hii.specs.Views.{bytes_left}
use Rattle.uefi_hii.proofs.Numbers.{HasRead}
use Rattle.uefi_hii.proofs.values.ConfigurationString.parse_number_from_hex.Given as goal

abbrev pub invariant-loop-byte : goal.invariant-loop-byte
invariant-loop-byte l = HasRead (hex l.text) (bytes_left l.byte-iterator) l.number
