-- Texts that a loop appends, one item's after another.
use Rattle.std.proofs.Common.{◌≡◌, ◌∙◌, ℕ, ◌+◌, ◌<◌, ◌≤◌, List, [], ◌∷◌, ◌++◌, length, take, get_or, flat_map, ap}
use Rattle.std.proofs.Common.{append_assoc, arith}
use Rattle.std.specs.Prelude.{codes}
use Rattle.std.specs.Fmt.{decimal}
use Rattle.std.proofs.lemmas.Grind.{common_steps}

-- Over a slice: after the text of one more item, and of the last.
pub appended_more : {X : Type 0} (f : X → List ℕ) (xs : List X) (i : ℕ) (x : X) (start now next : List ℕ)
    → i < length xs → x ≡ get_or xs i x → now ≡ start ++ flat_map f (take i xs) → next ≡ now ++ f x
    → next ≡ start ++ flat_map f (take (i + 1) xs)
appended_more f xs i x start now next some is before step = grind (arith, common_steps)

pub appended_all : {X : Type 0} (f : X → List ℕ) (xs : List X) (i : ℕ) (start now : List ℕ)
    → length xs ≤ i → now ≡ start ++ flat_map f (take i xs) → now ≡ start ++ flat_map f xs
appended_all f xs i start now all before = grind (arith, common_steps)

-- Over an iterator: after the text of the next item, and of the last.
pub appended_next : {X : Type 0} (f : X → List ℕ) (left rest : List X) (x : X) (now next whole : List ℕ)
    → left ≡ x ∷ rest → next ≡ now ++ f x → now ++ flat_map f left ≡ whole → next ++ flat_map f rest ≡ whole
appended_next f left rest x now next whole is step before = grind (arith, common_steps)

pub appended_last : {X : Type 0} (f : X → List ℕ) (left : List X) (now whole : List ℕ)
    → left ≡ [] → now ++ flat_map f left ≡ whole → now ≡ whole
appended_last f left now whole none before = grind (arith, common_steps)

-- After the text of the last, and the line with their count.
pub counted_last : {X : Type 0} (f : X → List ℕ) (all left : List X) (start now new label : List ℕ) (count : ℕ)
    → left ≡ [] → now ++ flat_map f left ≡ start ++ flat_map f all → count + length left ≡ length all
    → new ≡ now ++ (label ++ (decimal count ++ codes "\n"))
    → new ≡ start ++ (flat_map f all ++ (label ++ (decimal (length all) ++ codes "\n")))
counted_last f all left start now new label count none lines counted is =
    let whole = appended_last f left now (start ++ flat_map f all) none lines in
    let number : count ≡ length all = omega (arith, counted, ap length none) in
    is ∙ (λ i. whole i ++ (label ++ (decimal (number i) ++ codes "\n")))
    ∙ append_assoc start (flat_map f all) (label ++ (decimal (length all) ++ codes "\n"))
