-- Names of variables, as they are written and read.
use Rattle.std.proofs.Common.{◌≡◌, ◌↔◌, ◌∙◌, ℕ, ◌+◌, ◌*◌, ◌/◌, ◌%◌, ◌<◌, ◌≤◌, List, [], ◌∷◌, ◌++◌, length, get_or, true, ◌⊎◌, ⊎_elim, inl, inr, Option, Some, IsTrue, sym, ap, refl, arith, unwrap_or}
use Rattle.std.proofs.lemmas.Bool.Decides.{nat_tests}
use Rattle.std.proofs.lemmas.Grind.{common_steps}
use Rattle.std.proofs.lemmas.List.{append_cancel_right, length-append}
use Rattle.std.proofs.lemmas.Slice.Eq.{bytes_eq-Decides}
use Rattle.std.specs.Prelude.{codes}
use Rattle.std.specs.Fmt.{digit_glyph}
use Rattle.boot_listing.specs.Variables.{global_variable, is_file_of, name_of}
use Rattle.boot_listing.specs.declared.variables.BootVariable.{BootVariable}
use Rattle.boot_listing.specs.declared.variables.BootVariable.TheVariants.{BootCurrent, BootOrder, BootOption}

glyph_same : (v w : ℕ) → v < 16 → w < 16 → digit_glyph true v ≡ digit_glyph true w → v ≡ w
glyph_same v w v_small w_small same = grind (arith, nat_tests)

four_items : (items : List ℕ) → length items ≡ 4
    → items ≡ get_or items 0 0 ∷ get_or items 1 0 ∷ get_or items 2 0 ∷ get_or items 3 0 ∷ []
four_items [] four = absurd (omega (arith, four))
four_items (w ∷ []) four = absurd (omega (arith, four))
four_items (w ∷ x ∷ []) four = absurd (omega (arith, four))
four_items (w ∷ x ∷ y ∷ []) four = absurd (omega (arith, four))
four_items (w ∷ x ∷ y ∷ z ∷ []) four = refl
four_items (w ∷ x ∷ y ∷ z ∷ v ∷ more) four = absurd (omega (arith, four))

-- The digit is the one with this value, and no other one has it.
abbrev pub IsDigit : ℕ → ℕ → Type 0
IsDigit digit value = (other : ℕ) → other < 16 → (digit ≡ digit_glyph true other) ↔ (Some value ≡ Some other)

digit_is : (digit value : ℕ) → value < 16 → IsDigit digit value → digit ≡ digit_glyph true value
digit_is digit value small is = (is value small).1 refl

-- What a name behind `Boot` stands for, by its four digits.
pub named_by_digits : (name items : List ℕ) (a b c d n : ℕ) → name ≡ codes "Boot" ++ items → length items ≡ 4
    → a < 16 → b < 16 → c < 16 → d < 16 → n < 65536
    → IsDigit (get_or items 0 0) a → IsDigit (get_or items 1 0) b
    → IsDigit (get_or items 2 0) c → IsDigit (get_or items 3 0) d
    → (name ≡ name_of (BootOption n)) ↔ (Some (256 * (16 * a + b) + (16 * c + d)) ≡ Some n)
named_by_digits name items a b c d n is four a_small b_small c_small d_small n_small is_a is_b is_c is_d =
    let first = digit_is _ a a_small is_a in
    let second = digit_is _ b b_small is_b in
    let third = digit_is _ c c_small is_c in
    let fourth = digit_is _ d d_small is_d in
    let whole : name ≡ codes "Boot" ++ (digit_glyph true a ∷ digit_glyph true b ∷ digit_glyph true c ∷ digit_glyph true d ∷ []) =
    is ∙ ap (λ (t : List ℕ). codes "Boot" ++ t) (four_items items four) ∙ (λ i. codes "Boot" ++ (first i ∷ second i ∷ third i ∷ fourth i ∷ [])) in (
      λ same.
          let both = sym whole ∙ same in
          let one = glyph_same a (n / 256 / 16) a_small (omega arith) (ap (λ (t : List ℕ). get_or t 4 0) both) in
          let two = glyph_same b (n / 256 % 16) b_small (omega arith) (ap (λ (t : List ℕ). get_or t 5 0) both) in
          let three = glyph_same c (n % 256 / 16) c_small (omega arith) (ap (λ (t : List ℕ). get_or t 6 0) both) in
          let last = glyph_same d (n % 256 % 16) d_small (omega arith) (ap (λ (t : List ℕ). get_or t 7 0) both) in
          let number : 256 * (16 * a + b) + (16 * c + d) ≡ n = omega arith in
          ap Some number,
      λ same.
          let number : 256 * (16 * a + b) + (16 * c + d) ≡ n = ap (λ (o : Option ℕ). unwrap_or o 0) same in
          let one : a ≡ n / 256 / 16 = omega arith in
          let two : b ≡ n / 256 % 16 = omega arith in
          let three : c ≡ n % 256 / 16 = omega arith in
          let last : d ≡ n % 256 % 16 = omega arith in
          whole ∙ (λ i. codes "Boot" ++ (digit_glyph true (one i) ∷ digit_glyph true (two i) ∷ digit_glyph true (three i) ∷ digit_glyph true (last i) ∷ [])),
    )

-- The name of a variable is short.
name_length : (variable : BootVariable) → length (name_of variable) ≤ 11
name_length BootCurrent = omega arith
name_length BootOrder = omega arith
name_length (BootOption number) = omega arith

same_length : (front : List ℕ) (variable : BootVariable) → front ++ global_variable ≡ name_of variable → ⊥
same_length front variable same =
    let short = name_length variable in
    let long = ap length same in
    let parts = length-append front global_variable in
    omega (arith, short, long, parts)

-- What the two forms of a name are, said of a name.
forms : (name : List ℕ) (variable : BootVariable)
    → IsTrue (is_file_of variable name) ↔ (name ≡ name_of variable) ⊎ (name ≡ name_of variable ++ global_variable)
forms name variable =
    let alone = bytes_eq-Decides name (name_of variable) in
    let behind = bytes_eq-Decides name (name_of variable ++ global_variable) in
    grind (arith, common_steps)

-- A name with the GUID behind it is the variable before the GUID.
pub file_with_guid : (name front : List ℕ) (variable : BootVariable) → name ≡ front ++ global_variable
    → IsTrue (is_file_of variable name) ↔ (front ≡ name_of variable)
file_with_guid name front variable is = (
  λ file. ⊎_elim
      (λ alone. absurd (same_length front variable (sym is ∙ alone)))
      (λ behind. append_cancel_right front (name_of variable) global_variable (sym is ∙ behind))
      ((forms name variable).0 file),
  λ same. (forms name variable).1 (inr (is ∙ ap (λ (t : List ℕ). t ++ global_variable) same)),
)

-- A name without the GUID is the variable itself.
pub file_without_guid : (name : List ℕ) (variable : BootVariable)
    → ((front : List ℕ) → name ≡ front ++ global_variable → ⊥)
    → IsTrue (is_file_of variable name) ↔ (name ≡ name_of variable)
file_without_guid name variable none = (
  λ file. ⊎_elim (λ alone. alone) (λ behind. absurd (none (name_of variable) behind)) ((forms name variable).0 file),
  λ same. (forms name variable).1 (inl same),
)
