use Rattle.std.proofs.Common.{rules, arith}
use Rattle.std.proofs.lemmas.Result.{err_from_is_err_and}
use Rattle.file_input.proofs.Parts.{one_more, one_interrupted, more_allowed, all_given}
use Rattle.file_input.proofs.reading.read_to_end.Goals as goal
use Rattle.file_input.proofs.reading.read_to_end.Goals.{in-Ok+in_ok-extend_from_slice-in-Ok, in-Err}

pub returns-in-Ok-eq0-clause-whole : goal.returns-in-Ok-eq0-clause-whole
returns-in-Ok-eq0-clause-whole g c =
    let last = rw c.in-Ok-eq0.field-0-test at (rw c.in-Ok-eq0.is at c.read.ensures.bytes) in
    all_given _ _ _ _ _ c.loop.invariant last.0 (search rules)

pub returns-in_err-extend_from_slice-in-Ok-clause-lost :
    goal.returns-in_err-extend_from_slice-in-Ok-clause-lost
returns-in_err-extend_from_slice-in-Ok-clause-lost g c =
    let given = one_more _ _ _ _ c.loop.bytes.items c.read.new.buf c.in-Ok.count c.loop.invariant c.in-Ok.ensures.bytes.0
    (search rules) in
    let failed = err_from_is_err_and c.from_residual.result c.from_residual.ensures.1 in
    rw failed.1 (_, more_allowed _ _ _ _ _ given (omega (arith, c.loop-test.true)))

pub loop-preserved : goal.loop-preserved
loop-preserved g c =
    let bytes = c.loop.bytes.items in
    elim c.match-read.branch [
      | in-Ok+in_ok-extend_from_slice-in-Ok w ↦
          rw (w.bytes-is, w.in_ok-extend_from_slice-in-Ok.ensures.items)
          (one_more _ _ _ _ bytes c.read.new.buf w.in-Ok.count c.loop.invariant w.in-Ok.ensures.bytes.0 (search rules))
      | in-Err w ↦ rw w.bytes-is (one_interrupted _ _ _ _ bytes c.loop.invariant w.in-Err.ensures.bytes)
    ]
