-- Elements of an array of JSON that a loop appends, one after another.
use Rattle.std.proofs.Common.{◌≡◌, ◌∙◌, ℕ, List, [], ◌∷◌, ◌++◌, arith, append-nil, refl, subst, sym}
use lib.Utf8.{encode}
use Rattle.std.specs.Prelude.{IsUtf8, codes}
use Rattle.std.proofs.lemmas.Grind.{common_steps}
use Rattle.boot_listing.specs.Json.{elements_behind}

-- Both gaps are texts.
pub no_gap : IsUtf8 []
no_gap = ([], (refl, refl))

pub comma : IsUtf8 (codes ",")
unfolding encode
comma = (44 ∷ [], (refl, refl))

-- A gap and an element were appended.
behind : (now gap one rest next whole : List ℕ) → next ≡ now ++ (gap ++ one) → now ++ (gap ++ (one ++ rest)) ≡ whole
    → next ++ rest ≡ whole
behind now gap one rest next whole step before = grind (arith, common_steps)

-- After the next element, and after the last.
pub element_next : {X : Type 0} (element : X → List ℕ) (gap : List ℕ) (left rest : List X) (x : X) (now next whole : List ℕ)
    → left ≡ x ∷ rest → next ≡ now ++ (gap ++ element x) → now ++ elements_behind gap element left ≡ whole
    → next ++ elements_behind (codes ",") element rest ≡ whole
unfolding elements_behind
element_next element gap left rest x now next whole is step before = grind (arith, common_steps)

pub element_last : {X : Type 0} (element : X → List ℕ) (gap : List ℕ) (left : List X) (now whole : List ℕ)
    → left ≡ [] → now ++ elements_behind gap element left ≡ whole → now ≡ whole
unfolding elements_behind
element_last {X} element gap left now whole none before =
    sym (append-nil now) ∙ subst (λ (all : List X). now ++ elements_behind gap element all ≡ whole) none before
