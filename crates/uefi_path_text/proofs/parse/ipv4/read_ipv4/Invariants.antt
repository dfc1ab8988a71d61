-- The parts so far are read.
use Rattle.uefi_path_text.proofs.arguments.Addresses.{AreRead}
use Rattle.uefi_path_text.proofs.parse.ipv4.read_ipv4.Given as goal

abbrev pub invariant-loop-byte : goal.invariant-loop-byte
invariant-loop-byte l = AreRead l.text l.byte-items l.rest l.start l.byte-index
