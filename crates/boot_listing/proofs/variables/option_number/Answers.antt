use Rattle.std.proofs.Common.{◌≡◌, ◌∙◌, ℕ, ap, arith, codes, ◌++◌, sym, drop, List}
use Rattle.boot_listing.proofs.Names.{named_by_digits}
use Rattle.boot_listing.proofs.variables.option_number.Goals as goal

pub returns : goal.returns
returns c n small =
    let cut = c.in_ok-strip_prefix.ensures.cases in
    let items = c.as_bytes.result.now in
    let after : items ≡ drop cut.0 c.args.name.now = c.as_bytes.ensures.value ∙ cut.2 in
    let is : c.args.name.now ≡ codes "Boot" ++ items = cut.1.1 ∙ ap (λ (t : List ℕ). codes "Boot" ++ t) (sym after) in
    named_by_digits c.args.name.now items c.in_ok-digit_value.field-0 c.in_ok-high.field-0 c.in_ok-digit_value-2.field-0
    c.in_ok-low.field-0 n is (omega (arith, c.in-len4.len_at_least, c.in-len4.len_below))
    c.in_ok-digit_value.ensures.bound c.in_ok-high.ensures.bound c.in_ok-digit_value-2.ensures.bound c.in_ok-low.ensures.bound small
    c.in_ok-digit_value.ensures.value c.in_ok-high.ensures.value c.in_ok-digit_value-2.ensures.value c.in_ok-low.ensures.value
