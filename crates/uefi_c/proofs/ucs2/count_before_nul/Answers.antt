use Rattle.std.proofs.Common.{arith, sym, ◌∙◌}
use Rattle.uefi_c.proofs.Ucs2Units.{has_nul, is_nul, is_sized}
use Rattle.uefi_c.proofs.ucs2.count_before_nul.Goals as goal

pub returns-then-units-ne0 : goal.returns-then-units-ne0
returns-then-units-ne0 c = λ is. c.if-units-ne0.true is.even

pub returns-then-count-eq0 : goal.returns-then-count-eq0
returns-then-count-eq0 c = λ is. absurd (omega (arith, (is_sized c.args.units.now is).some, c.if-count-eq0.true))

pub returns-then-count-gt-MAX_UNITS : goal.returns-then-count-gt-MAX_UNITS
returns-then-count-gt-MAX_UNITS c = λ is.
    absurd (omega (arith, (is_sized c.args.units.now is).few, c.if-count-gt-MAX_UNITS.true))

pub returns-then-u16_at-ne0 : goal.returns-then-u16_at-ne0
returns-then-u16_at-ne0 c = λ is. c.if-u16_at-ne0.true (c.u16_at.ensures ∙ is_nul c.args.units.now is)

pub returns : goal.returns
returns c = has_nul c.args.units.now c.if-units-ne0.false c.if-count-eq0.false
    (omega (arith, c.if-count-gt-MAX_UNITS.false)) (sym c.u16_at.ensures ∙ c.if-u16_at-ne0.false)
