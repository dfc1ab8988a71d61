use Rattle.file_input.specs.Reads.{AreGiven}
use Rattle.file_input.proofs.reading.read_to_end.Given as goal

abbrev pub invariant-loop : goal.invariant-loop
invariant-loop g l =
    AreGiven l.counter (g.R.Read.remaining l.initial.reader) (g.R.Read.remaining l.reader) l.bytes.items
