-- Controls have four hex digits.
use Rattle.std.proofs.Common.{◌≡◌, ℕ, ◌<◌, arith, refl}
use Rattle.std.specs.Prelude.{◌||◌, Bool, true, false}
use Rattle.std.proofs.lemmas.Bool.{eqb-true}
use Rattle.std.proofs.lemmas.Bool.Decides.{nat_tests}
use Rattle.shown.specs.Name.{is_between, is_control}

either : (a b : Bool) (P : Type 0) → (a ≡ true → P) → (b ≡ true → P) → (a || b) ≡ true → P
either true b P first second is = first refl
either false b P first second is = second is

between : (low high character : ℕ) → high < 65536 → is_between low high character ≡ true → character < 65536
between low high character small is = grind (arith, nat_tests)

pub control_fits : (character : ℕ) → is_control character ≡ true → character < 65536
unfolding is_control
control_fits c is =
    let small : Type 0 = c < 65536 in
    either _ _ small
    (either _ _ small
    (either _ _ small
    (either _ _ small
    (either _ _ small (between 0 0x1f c (omega arith)) (between 0x7f 0x9f c (omega arith)))
    (λ same. let at = eqb-true c 0x61c same in omega (arith, at)))
    (between 0x200e 0x200f c (omega arith)))
    (between 0x2028 0x202e c (omega arith)))
    (between 0x2066 0x2069 c (omega arith)) is
