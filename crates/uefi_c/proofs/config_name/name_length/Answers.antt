use Rattle.std.proofs.Common.{◌∷◌, ◌<◌, ◌^◌, length, ap, subst, ◌∙◌, arith}
use Rattle.uefi_hii.specs.Views.{bytes_left}
use Rattle.uefi_c.proofs.NameUnits.{HasCounted, count_fits, one_counted}
use Rattle.uefi_c.proofs.config_name.name_length.Goals as goal

pub overflow_add-length : goal.overflow_add-length
overflow_add-length c =
    let left = c.in-Some.ensures.steps ∙ ap (λ s. c.in-Some.high ∷ s) c.in-Some-next.ensures.steps in
    let short : length c.args.text.now < 2 ^ 64 = omega (arith, ap length c.as_bytes.ensures.value, c.length_fits.ensures) in
    omega (
      arith,
      count_fits c.args.text.now (bytes_left c.next-in-Some.new.self) c.loop-high.length c.in-Some.high c.in-Some-next.low
          c.unit_of.result c.in_ok-character.character c.len_utf8-length.result
          (subst (λ s. HasCounted c.args.text.now s c.loop-high.length) left c.loop-high.invariant)
          (c.unit_of.ensures, c.in_ok-character.ensures.of_name.0, c.in_ok-character.ensures.of_name.1)
          c.len_utf8-length.ensures.len c.len_utf8-length.ensures.upper_bound c.if-text-ne0.false short,
    )

pub loop-high-preserved : goal.loop-high-preserved
loop-high-preserved c =
    let left = c.in-Some.ensures.steps ∙ ap (λ s. c.in-Some.high ∷ s) c.in-Some-next.ensures.steps in
    one_counted c.args.text.now (bytes_left c.next-in-Some.new.self) c.loop-high.length c.in-Some.high c.in-Some-next.low
    c.unit_of.result c.in_ok-character.character c.len_utf8-length.result
    (subst (λ s. HasCounted c.args.text.now s c.loop-high.length) left c.loop-high.invariant)
    (c.unit_of.ensures, c.in_ok-character.ensures.of_name.0, c.in_ok-character.ensures.of_name.1)
    c.len_utf8-length.ensures.len c.len_utf8-length.ensures.upper_bound
