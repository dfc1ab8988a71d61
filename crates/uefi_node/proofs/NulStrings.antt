-- Strings that end with a NUL each.
use Rattle.std.proofs.Common.{◌≡◌, ℕ, zero, suc, ◌+◌, ◌-◌, ◌<◌, List, [], ◌∷◌, ◌++◌, length, take, drop, get_or}
use Rattle.std.proofs.Common.{Bool, true, false, not, cond, ◌&&◌, refl, sym, ◌∙◌, ap, subst, arith, eqb, take-append-drop}
use Rattle.std.specs.Prelude.{IsTrue, ◌==◌, position, Some, None, nat_lt}
use Rattle.std.proofs.lemmas.List.Folds.{list_all-append}
use Rattle.std.proofs.lemmas.Bool.Decides.{nat_tests}
use Rattle.std.specs.List.{list_all, prefix_len}
use Rattle.std.proofs.Math.Dec.{eqb-suc-zero}
use Rattle.std.proofs.lemmas.List.{take_all, drop_more, drop-drop}
use Rattle.std.proofs.lemmas.List.Sums.{prefix_len_stops}
use Rattle.uefi_node.specs.Laws.{OneWayToSplit}
use Rattle.uefi_node.specs.NulStrings.{is_without_nul, AreStrings}

-- What passes a test before the first that doesn't.
before_first : (p : ℕ → Bool) (xs : List ℕ) → list_all p (take (prefix_len p xs) xs) ≡ true
before_first p [] = refl
before_first p (x ∷ xs) =
    elim (p x) as (λ b. p x ≡ b → list_all p (take (cond b (1 + prefix_len p xs) 0) (x ∷ xs)) ≡ true) [
      | true ↦ λ passes.
          let next : 1 + prefix_len p xs ≡ suc (prefix_len p xs) = omega arith in
          ap (λ n. list_all p (take n (x ∷ xs))) next ∙ (λ i. passes i && before_first p xs i)
      | false ↦ λ fails. refl
    ] refl

-- Where no NUL is found there is none, and where one is found there is none before it.
pub no_nul_found : (xs : List ℕ) → position (λ byte. byte == 0) xs ≡ None → is_without_nul xs ≡ true
no_nul_found xs none =
    let n : ℕ = prefix_len (λ byte. not (byte == 0)) xs in
    elim (nat_lt n (length xs)) as (λ b. nat_lt n (length xs) ≡ b → cond b (Some n) None ≡ None → is_without_nul xs ≡ true) [
      | true ↦ λ within some. absurd cc
      | false ↦ λ past same.
          let all : take n xs ≡ xs = take_all n xs (grind (arith, nat_tests, past)) in
          ap is_without_nul (sym all) ∙ before_first (λ byte. not (byte == 0)) xs
    ] refl none

pub no_nul_before : (xs : List ℕ) (k : ℕ) → position (λ byte. byte == 0) xs ≡ Some k → is_without_nul (take k xs) ≡ true
no_nul_before xs k some =
    let n : ℕ = prefix_len (λ byte. not (byte == 0)) xs in
    elim (nat_lt n (length xs)) as (λ b. cond b (Some n) None ≡ Some k → is_without_nul (take k xs) ≡ true) [
      | true ↦ λ found.
          let same : n ≡ k = cc in
          ap (λ m. is_without_nul (take m xs)) (sym same) ∙ before_first (λ byte. not (byte == 0)) xs
      | false ↦ λ found. absurd cc
    ] some

-- A byte that fails the test is a NUL.
is_nul : (byte : ℕ) → not (byte == 0) ≡ false → byte ≡ 0
is_nul zero fails = refl
is_nul (suc n) fails = absurd (let never : true ≡ false = sym (ap not (eqb-suc-zero n)) ∙ fails in cc)

-- What is found is a NUL, between what is before it and what follows it.
pub nul_between : (xs : List ℕ) (k : ℕ) → position (λ byte. byte == 0) xs ≡ Some k
    → xs ≡ take k xs ++ 0 ∷ drop 1 (drop k xs)
nul_between xs k some =
    let n : ℕ = prefix_len (λ byte. not (byte == 0)) xs in
    elim (nat_lt n (length xs)) as (λ b. nat_lt n (length xs) ≡ b → cond b (Some n) None ≡ Some k
    → xs ≡ take k xs ++ 0 ∷ drop 1 (drop k xs)) [
      | true ↦ λ test found.
          let same : n ≡ k = cc in
          let within : n < length xs = grind (arith, nat_tests, test) in
          let nul : get_or xs n 0 ≡ 0 = is_nul _ (prefix_len_stops (λ byte. not (byte == 0)) xs 0 within) in
          let after : drop n xs ≡ 0 ∷ drop 1 (drop n xs) =
          drop_more xs n 0 within ∙ (λ i. nul i ∷ sym (drop-drop 1 n xs) i) in
          subst (λ m. xs ≡ take m xs ++ 0 ∷ drop 1 (drop m xs)) same
          (sym (take-append-drop n xs) ∙ ap (λ rest. take n xs ++ rest) after)
      | false ↦ λ test found. absurd cc
    ] refl some

-- Both tests of a pair are true.
left_true : (a b : Bool) → (a && b) ≡ true → a ≡ true
left_true true b both = refl
left_true false b both = both

right_true : (a b : Bool) → (a && b) ≡ true → b ≡ true
right_true true b both = both
right_true false b both = absurd (let never : false ≡ true = both in cc)

-- A NUL passes no test for other bytes.
no_nul : (x : ℕ) → x ≡ 0 → not (eqb x 0) ≡ true → ⊥
no_nul x is other = let never : false ≡ true = sym (ap (λ n. not (eqb n 0)) is) ∙ other in absurd cc

-- Where a string ends is where the first NUL is.
pub one_string : (string other rest more : List ℕ) → IsTrue (is_without_nul string) → IsTrue (is_without_nul other)
    → string ++ 0 ∷ rest ≡ other ++ 0 ∷ more → (string ≡ other) × (rest ≡ more)
one_string [] [] rest more own its same = (refl, ap (drop 1) same)
one_string [] (y ∷ ys) rest more own its same = absurd (no_nul y (sym (ap (λ l. get_or l 0 0) same)) (left_true _ (is_without_nul ys) its))
one_string (x ∷ xs) [] rest more own its same = absurd (no_nul x (ap (λ l. get_or l 0 0) same) (left_true _ (is_without_nul xs) own))
one_string (x ∷ xs) (y ∷ ys) rest more own its same =
    let others = one_string xs ys rest more (right_true _ _ own) (right_true _ _ its) (ap (drop 1) same) in
    ((λ i. get_or (same i) 0 0 ∷ others.0 i), others.1)

-- Bytes without a NUL don't begin with a string.
pub no_string : (bytes string rest : List ℕ) → IsTrue (is_without_nul bytes) → bytes ≡ string ++ 0 ∷ rest → ⊥
no_string bytes string rest own is =
    let split : is_without_nul string && is_without_nul (0 ∷ rest) ≡ true =
    sym (list_all-append (λ byte. not (byte == 0)) string (0 ∷ rest)) ∙ ap is_without_nul (sym is) ∙ own in
    let never : false ≡ true = right_true (is_without_nul string) false split in absurd cc

-- The strings of which the first is known.
pub after_first : (bytes string rest first second third : List ℕ) → IsTrue (is_without_nul string)
    → bytes ≡ string ++ 0 ∷ rest → AreStrings bytes first second third → rest ≡ second ++ 0 ∷ (third ++ 0 ∷ [])
after_first bytes string rest first second third own is are =
    (one_string string first rest _ own are.first_string (sym is ∙ are.joined)).1

pub after_second : (bytes string rest second third : List ℕ) → IsTrue (is_without_nul string)
    → bytes ≡ string ++ 0 ∷ rest → IsTrue (is_without_nul second) → bytes ≡ second ++ 0 ∷ (third ++ 0 ∷ [])
    → rest ≡ third ++ 0 ∷ []
after_second bytes string rest second third own is its are = (one_string string second rest _ own its (sym is ∙ are)).1

pub after_third : (bytes string rest third : List ℕ) → IsTrue (is_without_nul string) → bytes ≡ string ++ 0 ∷ rest
    → IsTrue (is_without_nul third) → bytes ≡ third ++ 0 ∷ [] → rest ≡ []
after_third bytes string rest third own is its are = (one_string string third rest [] own its (sym is ∙ are)).1

-- Bytes are three strings in one way.
pub one_way_to_split : OneWayToSplit
one_way_to_split a b c x y z own its =
    let first = one_string x a _ _ its.first_string own.first_string own.joined in
    let second = one_string y b _ _ its.second_string own.second_string first.1 in
    let third = one_string z c [] [] its.third_string own.third_string second.1 in
    (sym first.0, sym second.0, sym third.0)
