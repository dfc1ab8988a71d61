use Rattle.pcr_replay.proofs.quote.NoQuoteDigestDisplay.fmt.Goals as goal

pub returns-in-Undetermined-clause-writes : goal.returns-in-Undetermined-clause-writes
returns-in-Undetermined-clause-writes g c =
    rw c.in-Undetermined.is (simp c.in_radix-in-Undetermined.ensures at c.write-in-Undetermined.ensures.writes)
