-- Units with a NUL after them.
use Rattle.std.proofs.Common.{◌≡◌, ◌∙◌, ℕ, List, [], ◌∷◌, ◌++◌, ap, sym, refl, append_assoc, append-nil, eq-eqb, ne_eqb}
use Rattle.std.specs.List.{flat_map}
use Rattle.std.specs.Prelude.{◌==◌, cond}
use Rattle.uefi_path.specs.LoadOption.{with_nul}
use Rattle.audit_text.specs.words.Texts.{before_nul, unit_text}

-- The units before the first NUL are the same with one more at the end.
pub without_nul : (units : List ℕ) → before_nul (with_nul units) ≡ before_nul units
unfolding before_nul
without_nul [] = refl
without_nul (unit ∷ units) = ap (λ more. cond (unit == 0) [] (unit ∷ more)) (without_nul units)

-- A NUL ends them. Another unit comes before those of the rest.
at_nul : (unit : ℕ) (units : List ℕ) → unit ≡ 0 → before_nul (unit ∷ units) ≡ []
unfolding before_nul
at_nul unit units is = rw (eq-eqb unit 0 is) refl

at_other : (unit : ℕ) (units : List ℕ) → (unit ≡ 0 → ⊥) → before_nul (unit ∷ units) ≡ unit ∷ before_nul units
unfolding before_nul
at_other unit units other = rw (ne_eqb unit 0 other) refl

-- The text so far and that of the units to come are the text of all, once a unit was appended, and at the NUL.
pub one_more : (so_far next all : List ℕ) (unit : ℕ) (before units : List ℕ) → before ≡ unit ∷ units → (unit ≡ 0 → ⊥)
    → next ≡ so_far ++ unit_text unit → so_far ++ flat_map unit_text (before_nul before) ≡ all
    → next ++ flat_map unit_text (before_nul units) ≡ all
one_more so_far next all unit before units first other appended text =
    let step : before_nul before ≡ unit ∷ before_nul units = ap before_nul first ∙ at_other unit units other in
    ap (λ it. it ++ flat_map unit_text (before_nul units)) appended
    ∙ append_assoc so_far (unit_text unit) (flat_map unit_text (before_nul units))
    ∙ sym (ap (λ it. so_far ++ flat_map unit_text it) step) ∙ text

pub ended : (so_far all : List ℕ) (unit : ℕ) (before units : List ℕ) → before ≡ unit ∷ units → unit ≡ 0
    → so_far ++ flat_map unit_text (before_nul before) ≡ all → so_far ≡ all
ended so_far all unit before units first is text =
    sym (append-nil so_far) ∙ sym (ap (λ it. so_far ++ flat_map unit_text it) (ap before_nul first ∙ at_nul unit units is)) ∙ text
