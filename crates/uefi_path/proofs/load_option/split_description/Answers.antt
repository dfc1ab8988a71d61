use Rattle.std.proofs.Common.{arith}
use Rattle.uefi_path.proofs.Descriptions.{EndsPart, passed_end, passed_more, passed_nowhere, unit_missing}
use Rattle.uefi_path.proofs.load_option.split_description.Goals as goal
use Rattle.uefi_path.proofs.load_option.split_description.Goals.{In_ok-description}

-- What is split off is a description, with its NUL.
ends : (c : In_ok-description) → EndsPart c.args.bytes.now c.in_ok-description.description.now c.in-Some.after.now
ends c =
    passed_end c.args.bytes.now _ _ _ c.in-Some.unit (λ i. omega (arith, c.type_inv.bytes i)) c.loop-unit.invariant
    c.in-Some.ensures c.if-unit-eq0.true c.in_ok-description.ensures.cases.1

pub returns-in_err-try_new-clause-none : goal.returns-in_err-try_new-clause-none
returns-in_err-try_new-clause-none c =
    let part = ends (goal.at.returns-in_err-try_new-clause-none c).In_ok-description in
    absurd (let odd = c.in_err-try_new.ensures.even.1 part.even in cc)

pub returns-then-unit-eq0-clause-nul : goal.returns-then-unit-eq0-clause-nul
returns-then-unit-eq0-clause-nul c =
    let part = ends (goal.at.returns-then-unit-eq0-clause-nul c).In_ok-description in
    rw c.in_ok-try_new.ensures.units part.nul

pub returns-then-unit-eq0-clause-units : goal.returns-then-unit-eq0-clause-units
returns-then-unit-eq0-clause-units c =
    let part = ends (goal.at.returns-then-unit-eq0-clause-units c).In_ok-description in
    rw c.in_ok-try_new.ensures.units part.nonzero

pub returns-then-unit-eq0-clause-split : goal.returns-then-unit-eq0-clause-split
returns-then-unit-eq0-clause-split c =
    let part = ends (goal.at.returns-then-unit-eq0-clause-split c).In_ok-description in
    rw c.in_ok-try_new.ensures.units part.split

pub loop-unit-preserved : goal.loop-unit-preserved
loop-unit-preserved c =
    passed_more c.args.bytes.now c.loop-unit.rest.now c.in-Some.after.now c.in-Some.unit
    (λ i. omega (arith, c.type_inv.bytes i)) c.loop-unit.invariant c.in-Some.ensures
    (omega (arith, c.if-unit-eq0.false))

pub returns-clause-none : goal.returns-clause-none
returns-clause-none c =
    passed_nowhere c.args.bytes.now c.loop-unit.rest.now c.loop-unit.invariant
    (unit_missing c.loop-unit.rest.now c.in_default.ensures)
