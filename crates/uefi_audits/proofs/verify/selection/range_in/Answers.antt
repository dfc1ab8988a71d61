use Rattle.std.proofs.Common.{arith}
use Rattle.std.specs.Prelude.{None, Some}
use Rattle.uefi_audits.specs.declared.verify.selection.Range.{Range}
use Rattle.uefi_audits.proofs.verify.Selections.{between, no_number, one_number}
use Rattle.uefi_audits.proofs.verify.selection.range_in.Goals as goal

pub returns-in_err-pcr : goal.returns-in_err-pcr
returns-in_err-pcr c =
    rw c.from_residual.ensures (no_number c.args.item.now c.in_default.ensures c.in_err-pcr.ensures)

pub returns-in_err-first : goal.returns-in_err-first
returns-in_err-first c =
    rw c.from_residual-in_err-first.ensures (between c.args.item.now c.in-Some.first.now c.in-Some.last.now None
    (record { parts = c.in-Some.ensures.1; first = c.in-Some.ensures.0 })
    (λ range first last ascend. c.in_err-first.ensures range.first first))

pub returns-in_err-last : goal.returns-in_err-last
returns-in_err-last c =
    rw c.from_residual-in_err-last.ensures (between c.args.item.now c.in-Some.first.now c.in-Some.last.now None
    (record { parts = c.in-Some.ensures.1; first = c.in-Some.ensures.0 })
    (λ range first last ascend. c.in_err-last.ensures range.last last))

pub returns-then-first-last : goal.returns-then-first-last
returns-then-first-last c =
    between c.args.item.now c.in-Some.first.now c.in-Some.last.now None
    (record { parts = c.in-Some.ensures.1; first = c.in-Some.ensures.0 })
    (λ range first last ascend.
    let one = one_number c.in-Some.first.now range.first c.in_ok-first.first first c.in_ok-first.ensures in
    let other = one_number c.in-Some.last.now range.last c.in_ok-last.last last c.in_ok-last.ensures in
    omega (arith, one, other, ascend, c.if-first-last.true))

pub returns : goal.returns
returns c =
    let range : Range = record { first = c.in_ok-first.first; last = c.in_ok-last.last } in
    between c.args.item.now c.in-Some.first.now c.in-Some.last.now (Some range)
    (record { parts = c.in-Some.ensures.1; first = c.in-Some.ensures.0 })
    (c.in_ok-first.ensures, c.in_ok-last.ensures, omega (arith, c.if-first-last.false))
