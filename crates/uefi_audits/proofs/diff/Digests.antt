-- Digests of algorithms, one after another.
use Rattle.std.proofs.Common.{◌≡◌, ◌∙◌, ℕ, ◌+◌, ◌<◌, List, [], ◌∷◌, ◌++◌, get_or, length, map, take, ap, ap₂, refl, sym}
use Rattle.std.proofs.lemmas.List.{map-append, map_more}
use Rattle.uefi_tcg.specs.declared.algorithm_id.AlgorithmId.{AlgorithmId}
use Rattle.uefi_audits.specs.diff.Views.{numbers_of}
use Rattle.uefi_audits.proofs.FirstOnes.{same_at}

fused : {A : Type 0} (f : ℕ → A) (algorithms : List AlgorithmId) → map f (numbers_of algorithms) ≡ map (λ (a : AlgorithmId). f a.0) algorithms
fused f [] = refl
fused f (algorithm ∷ rest) = ap (λ more. f algorithm.0 ∷ more) (fused f rest)

-- What is the same of all algorithms is the same of one.
pub same_here : {A : Type 0} (f g : ℕ → A) (algorithms : List AlgorithmId) (index : ℕ) (default : AlgorithmId)
    → index < length algorithms → map f (numbers_of algorithms) ≡ map g (numbers_of algorithms)
    → f (get_or algorithms index default).0 ≡ g (get_or algorithms index default).0
same_here f g algorithms index default within same =
    same_at (λ (a : AlgorithmId). f a.0) (λ (a : AlgorithmId). g a.0) algorithms algorithms index default default
    (sym (fused f algorithms) ∙ same ∙ fused g algorithms) within

-- One more.
one_more : {A : Type 0} (f : ℕ → A) (algorithms : List AlgorithmId) (index : ℕ) (default : AlgorithmId) → index < length algorithms
    → map f (numbers_of (take (index + 1) algorithms))
    ≡ map f (numbers_of (take index algorithms)) ++ f (get_or algorithms index default).0 ∷ []
one_more f algorithms index default within =
    ap (map f) (map_more (λ (a : AlgorithmId). a.0) algorithms index default within)
    ∙ map-append f (numbers_of (take index algorithms)) ((get_or algorithms index default).0 ∷ [])

pub same_more : {A : Type 0} (f g : ℕ → A) (algorithms : List AlgorithmId) (index : ℕ) (default : AlgorithmId)
    → index < length algorithms → f (get_or algorithms index default).0 ≡ g (get_or algorithms index default).0
    → map f (numbers_of (take index algorithms)) ≡ map g (numbers_of (take index algorithms))
    → map f (numbers_of (take (index + 1) algorithms)) ≡ map g (numbers_of (take (index + 1) algorithms))
same_more f g algorithms index default within here before =
    one_more f algorithms index default within ∙ ap₂ (λ front last. front ++ last ∷ []) before here
    ∙ sym (one_more g algorithms index default within)

-- The numbers with one more.
pub pushed : (found new : List AlgorithmId) (number : ℕ) → new ≡ found ++ record { 0 = number } ∷ []
    → numbers_of new ≡ numbers_of found ++ number ∷ []
pushed found new number is =
    ap numbers_of is ∙ map-append (λ (a : AlgorithmId). a.0) found ((record { 0 = number }) ∷ [])
