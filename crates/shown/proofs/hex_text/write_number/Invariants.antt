use Rattle.shown.proofs.HexNumbers.{HasFilled}
use Rattle.shown.proofs.hex_text.write_number.Given as goal

abbrev pub invariant-loop-rest : goal.invariant-loop-rest
invariant-loop-rest g l = HasFilled l.number l.rest l.start l.text

abbrev pub decreases-loop-rest : goal.decreases-loop-rest
decreases-loop-rest g l = l.rest
