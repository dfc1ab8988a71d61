-- Where a text is cut.
use Rattle.std.proofs.Common.{◌≡◌, ◌∙◌, ℕ, suc, List, [], ◌∷◌, ◌++◌, ap₂, arith, refl, sym, subst}
use Rattle.uefi_audits.specs.verify.Reading.{Lacks}
use Rattle.uefi_audits.specs.verify.Selection.{IsCut}

-- The rest of bytes that lack a value lacks it.
rest_lacks : (value byte : ℕ) (bytes : List ℕ) → Lacks value (byte ∷ bytes) → Lacks value bytes
rest_lacks value byte bytes lacks = λ k d below. lacks (suc k) d (omega (arith, below))

first_lacks : (value byte : ℕ) (bytes : List ℕ) → Lacks value (byte ∷ bytes) → byte ≡ value → ⊥
first_lacks value byte bytes lacks = lacks 0 0 (omega arith)

-- A text with the value doesn't lack it.
pub cut_has : (value : ℕ) (front back : List ℕ) → Lacks value (front ++ value ∷ back) → ⊥
cut_has value [] back lacks = first_lacks value value back lacks refl
cut_has value (byte ∷ front) back lacks = cut_has value front back (rest_lacks value byte (front ++ value ∷ back) lacks)

-- It is cut in one way.
pub one_cut : (value : ℕ) (front other back more : List ℕ) → Lacks value front → Lacks value other
    → front ++ value ∷ back ≡ other ++ value ∷ more → (front ≡ other) × (back ≡ more)
one_cut value [] [] back more lacks also same = (refl, let rest : back ≡ more = cc in rest)
one_cut value [] (byte ∷ other) back more lacks also same =
    absurd (first_lacks value byte other also (let first : byte ≡ value = cc in first))
one_cut value (byte ∷ front) [] back more lacks also same =
    absurd (first_lacks value byte front lacks (let first : byte ≡ value = cc in first))
one_cut value (byte ∷ front) (first ∷ other) back more lacks also same =
    let begins : byte ≡ first = cc in
    let follows : front ++ value ∷ back ≡ other ++ value ∷ more = cc in
    let rest = one_cut value front other back more (rest_lacks value byte front lacks) (rest_lacks value first other also) follows in
    (ap₂ (λ b bs. b ∷ bs) begins rest.0, rest.1)

pub cuts_agree : (value : ℕ) (text front back other more : List ℕ) → IsCut value text front back
    → IsCut value text other more → (front ≡ other) × (back ≡ more)
cuts_agree value text front back other more is also =
    one_cut value front other back more is.first also.first (sym is.parts ∙ also.parts)

pub no_cut : (value : ℕ) (text front back : List ℕ) → Lacks value text → IsCut value text front back → ⊥
no_cut value text front back lacks is =
    cut_has value front back (subst (λ (t : List ℕ). Lacks value t) is.parts lacks)
