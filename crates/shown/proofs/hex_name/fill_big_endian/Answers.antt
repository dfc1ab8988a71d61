use Rattle.std.proofs.Common.{◌≡◌, ◌+◌, ◌-◌, ◌<◌, ◌∙◌, ℕ, [], ◌∷◌, length, get_or, ap, arith, unwrap_or}
use Rattle.std.proofs.lemmas.Option.{slice_get-get_or}
use Rattle.uefi_base.specs.Views.{slice_units}
use Rattle.shown.proofs.HexNames.{big_endian-more}
use Rattle.shown.proofs.hex_name.fill_big_endian.Goals as goal

pub loop-i-preserved : goal.loop-i-preserved
loop-i-preserved c =
    let units = slice_units c.args.units.now in
    let i = c.loop-i.i in
    let k : ℕ = i - c.args.start in
    let within : i < length units = omega (arith, c.requires.within) in
    let unit = c.unwrap_or.ensures ∙ ap (λ o. unwrap_or o 0) (c.get.ensures ∙ slice_get-get_or units i 0 within) in
    let next : i + 1 - c.args.start ≡ k + 1 = omega arith in
    rw next (big_endian-more c.loop-i.bytes units k c.args.start i c.unwrap_or.result _ _
    (omega (arith, c.requires.room)) (omega arith) within unit
    (λ j. get_or (c.to_be_bytes.ensures j) 0 0 ∷ get_or (c.to_be_bytes.ensures j) 1 0 ∷ []) c.loop-i.invariant)
