-- The first items of a list, and how many there are more.
use Rattle.std.proofs.Common.{◌≡◌, ◌∙◌, ℕ, ◌-◌, List, ◌++◌, length, take, drop, ap, append_assoc, arith}
use Rattle.std.specs.Prelude.{min}
use Rattle.std.proofs.lemmas.List.{length-drop, take_min}
use Rattle.audit_text.specs.words.Said.{more}

module _ (all first rest : List ℕ) (most count : ℕ) (is : count ≡ min most (length all)) (before : first ≡ take count all)
    (after : rest ≡ drop count all) where
  first_ones : first ≡ take most all
  first_ones = before ∙ ap (λ n. take n all) is ∙ take_min most all

  left : length rest ≡ length all - most
  left = ap length after ∙ length-drop count all ∙ omega (arith, is)

  -- What is shown of them, and what was appended.
  pub first_shown : (text : List ℕ → List ℕ) (now new : List ℕ) → now ≡ text first → new ≡ now ++ more (length rest)
      → new ≡ text (take most all) ++ more (length all - most)
  first_shown text now new some others =
      others ∙ ap (λ it. it ++ more (length rest)) some ∙ (λ i. text (first_ones i) ++ more (left i))

  pub first_appended : (text : List ℕ → List ℕ) (old now new : List ℕ) → now ≡ old ++ text first
      → new ≡ now ++ more (length rest) → new ≡ old ++ (text (take most all) ++ more (length all - most))
  first_appended text old now new some others =
      others ∙ ap (λ it. it ++ more (length rest)) some ∙ append_assoc old (text first) (more (length rest))
      ∙ ap (λ it. old ++ it) (λ i. text (first_ones i) ++ more (left i))
