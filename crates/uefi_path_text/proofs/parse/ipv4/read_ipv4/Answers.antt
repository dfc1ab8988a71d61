use Rattle.std.proofs.Common.{arith, Result, Ok, Err}
use Rattle.std.specs.Result.{OnErr}
use Rattle.uefi_path_text.proofs.arguments.Addresses.{one_more_part, no_address_at_part, no_address_long}
use Rattle.std.proofs.lemmas.Result.{err_from_is_err_and}
use Rattle.uefi_path_text.proofs.parse.ipv4.read_ipv4.Goals as goal

on_err : {T E P : Type 0} (r : Result T E) → P → OnErr r P
on_err (Ok x) p = tt
on_err (Err e) p = p

pub loop-byte-preserved : goal.loop-byte-preserved
loop-byte-preserved c =
    one_more_part c.args.text.now c.loop-byte.byte-items c.cut.result.0.now c.in-Some.parts c.cut.result.1 c.loop-byte.start c.loop-byte.byte-index c.in_ok-byte.field-0 c.loop-byte-test.true (rw c.in-Some.is at c.loop-byte.invariant) c.cut.ensures c.in_ok-byte.ensures.ok c.in_ok-byte.ensures.number

pub returns-in_err-byte-clause-err : goal.returns-in_err-byte-clause-err
returns-in_err-byte-clause-err c =
    on_err c.from_residual.result (no_address_at_part c.args.text.now c.loop-byte.byte-items c.cut.result.0.now c.in-Some.parts c.cut.result.1 c.loop-byte.start c.loop-byte.byte-index (rw c.in-Some.is at c.loop-byte.invariant) c.cut.ensures c.in_err-byte.ensures.err)

pub overflow_sub-result : goal.overflow_sub-result
overflow_sub-result c = omega (arith, c.loop-byte.invariant.later, c.loop-byte-test.array_long)

pub returns-in-Some-rest-clause-err : goal.returns-in-Some-rest-clause-err
returns-in-Some-rest-clause-err c =
    no_address_long c.args.text.now c.loop-byte.byte-items c.in-Some-rest.field-0 c.loop-byte.start c.loop-byte.byte-index (omega arith) (rw c.in-Some-rest.is at c.loop-byte.invariant)

pub returns-in_err-byte-clause-offset : goal.returns-in_err-byte-clause-offset
returns-in_err-byte-clause-offset c =
    let passed = err_from_is_err_and c.from_residual.result c.from_residual.ensures.1 in
    let read = rw c.in-Some.is at c.loop-byte.invariant in
    rw (passed.1, passed.2) (omega (arith, c.in_err-byte.ensures.place, read.place, c.cut.ensures.length))

pub returns-in-Some-rest-clause-offset : goal.returns-in-Some-rest-clause-offset
returns-in-Some-rest-clause-offset c =
    let read = rw c.in-Some-rest.is at c.loop-byte.invariant in omega (arith, read.place)
