use Rattle.std.proofs.Common.{◌<◌, ◌≡◌, length, subst, ◌∙◌, arith}
use Rattle.uefi_base.specs.Ucs2.{IsCharacter}
use Rattle.uefi_base.specs.Unaligned.{units_of}
use Rattle.uefi_base.proofs.UnitsOfBytes.{half_as_many_units}
use Rattle.uefi_c.proofs.Ucs2Units.{HasCounted, all_counted, none_counted, not_character, one_counted}
use Rattle.uefi_c.proofs.ucs2.utf8_length.Goals as goal

pub loop-index-init : goal.loop-index-init
loop-index-init c = none_counted c.args.units.now

pub returns-in_default : goal.returns-in_default
returns-in_default c =
    let within : c.loop-index.index < length (units_of c.args.units.now) =
    omega (arith, half_as_many_units c.args.units.now, c.requires.sized, c.loop-index-test.true) in
    not_character c.args.units.now c.loop-index.index within c.args.count c.requires c.loop-index-test.true
    (subst (λ unit. ¬ IsCharacter unit) c.u16_at.ensures c.in_default.ensures.character)

pub loop-index-preserved : goal.loop-index-preserved
loop-index-preserved c =
    let within : c.loop-index.index < length (units_of c.args.units.now) =
    omega (arith, half_as_many_units c.args.units.now, c.requires.sized, c.loop-index-test.true) in
    one_counted c.args.units.now c.loop-index.index within c.loop-index.length c.in-Some.character c.len_utf8-length.result
    c.loop-index.invariant
    (subst IsCharacter c.u16_at.ensures c.in-Some.ensures.character.0, c.in-Some.ensures.character.1 ∙ c.u16_at.ensures)
    c.len_utf8-length.ensures.len c.len_utf8-length.ensures.upper_bound

pub returns : goal.returns
returns c =
    let end : c.loop-index.index ≡ c.args.count =
    omega (arith, c.loop-index-test.false, c.loop-index.auto.index-end) in
    all_counted c.args.units.now c.args.count c.loop-index.length c.requires
    (subst (λ index. HasCounted c.args.units.now index c.loop-index.length) end c.loop-index.invariant)
