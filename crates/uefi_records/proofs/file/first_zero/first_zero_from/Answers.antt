use Rattle.std.proofs.Common.{rules, refl, arith, ◌≡◌, ◌≤◌, ◌+◌, ◌*◌, ◌∙◌, sym, length, drop, ap}
use Rattle.std.specs.Prelude.{◌==◌}
use Rattle.std.specs.List.{position_from}
use Rattle.std.specs.Option.{option_map}
use Rattle.std.proofs.lemmas.Iterator.Adapters.{position_from-zero}
use Rattle.std.proofs.lemmas.Iterator.Consumers.{YieldsList-from_first}
use Rattle.std.proofs.lemmas.Iterator.Search.{position_from_yields_List}
use borrow.Author.Tests.{tests}
use Rattle.uefi_base.specs.Unaligned.{units_of}
use Rattle.uefi_base.specs.Views.{units_left}
use Rattle.uefi_base.proofs.UnitsOfBytes.{half_as_many_units}
use Rattle.uefi_records.specs.file.Name.{first_zero, unit_length}
use Rattle.uefi_records.proofs.file.FirstZero.{first_zero_is, found_from, units_of_whole}
use Rattle.uefi_records.proofs.file.first_zero.first_zero_from.Goals as goal
use Rattle.uefi_records.proofs.file.first_zero.first_zero_from.Goals.{After-position}

-- The search finds the first zero unit that is left.
found : (c : After-position) → c.position.result ≡ first_zero (units_of c.split_at.result.1.now)
found c =
    let rest = c.split_at.result.1.now in
    let left : units_left c.iter.result ≡ units_of rest =
    c.iter.ensures.units ∙ c.new.ensures ∙ units_of_whole rest _ refl in
    position_from_yields_List (λ unit. unit == 0) c.position.new.self _ c.position.result c.position.ensures.ran
    (YieldsList-from_first (λ unit. unit) units_left (units_of rest) left) (λ x b q k. search (rules, tests))
    ∙ position_from-zero (λ unit. unit == 0) (units_of rest)

-- Counted from the start, it is the first of all from there on.
counted : (c : After-position) → option_map (λ k. c.args.start + k) c.position.result
    ≡ position_from (λ unit. unit == 0) c.args.start (units_of (drop (unit_length * c.args.start) c.args.bytes.now))
counted c = rw c.split_at.ensures.back at
    (found_from c.args.start (units_of c.split_at.result.1.now) c.position.result (found c))

pub returns-in_err-index-clause-first : goal.returns-in_err-index-clause-first
returns-in_err-index-clause-first c =
    c.from_residual.ensures ∙ ap (option_map (λ k. c.args.start + k)) (sym c.in_err-index.was)
    ∙ counted (goal.at.returns-in_err-index-clause-first c).After-position

pub returns-clause-first : goal.returns-clause-first
returns-clause-first c = ap (option_map (λ k. c.args.start + k)) (sym c.in_ok-index.was)
    ∙ counted (goal.at.returns-clause-first c).After-position

-- The index is that of a unit.
within : (c : goal.In_ok-index) → unit_length * (c.args.start + c.in_ok-index.index + 1) ≤ length c.args.bytes.now
within c =
    let rest = c.split_at.result.1.now in
    let first = first_zero_is (units_of rest) c.in_ok-index.index
    (sym (found (goal.at.overflow_add-result c).After-position) ∙ c.in_ok-index.was) in
    omega (arith, first.within, half_as_many_units rest, c.split_at.ensures.back_len, c.requires)

pub overflow_add-result : goal.overflow_add-result
overflow_add-result c = omega (arith, within c)

pub returns-clause-within : goal.returns-clause-within
returns-clause-within c = omega (arith, within c)
