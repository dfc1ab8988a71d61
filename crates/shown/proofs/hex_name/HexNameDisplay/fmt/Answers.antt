use Rattle.std.proofs.Common.{◌≡◌, ◌-◌, ◌<◌, ℕ, take, length, arith, rules, ap, sym}
use Rattle.std.proofs.Output.{has_written_of_eq}
use Rattle.std.proofs.lemmas.Grind.{put_two}
use Rattle.std.specs.Prelude.{codes}
use Rattle.std.proofs.lemmas.List.{length-take-le}
use Rattle.uefi_base.specs.Views.{slice_units}
use Rattle.shown.specs.HexName.{name_field, units_hex}
use Rattle.shown.proofs.HexNames.{name_field-some}
use Rattle.shown.proofs.hex_name.HexNameDisplay.fmt.Goals as goal

pub returns-then-count-eq0-clause-writes : goal.returns-then-count-eq0-clause-writes
unfolding name_field
returns-then-count-eq0-clause-writes g c plain ok =
    let units = slice_units c.args.self.now.0 in
    let none : length units - 1 ≡ 0 = omega arith in
    has_written_of_eq _ _ _ _ _ (ap (λ (n : ℕ). name_field (take n units)) (sym none)) (search rules)

pub returns-clause-writes : goal.returns-clause-writes
returns-clause-writes g c plain ok =
    let units = slice_units c.args.self.now.0 in
    let some : 0 < length (take (length units - 1) units) =
    omega (arith, length-take-le (length units - 1) units (omega arith)) in
    let field = sym (name_field-some (take (length units - 1) units) some) in
    put_two g.W.Write.write_str_gives c.args.f.now c.write_str.new.self c.write_units.new.f (codes " ")
    (units_hex (take (length units - 1) units)) (name_field (take (length units - 1) units))
    (search rules) (search rules) field
