-- Numbers, each where it comes first.
use Rattle.std.proofs.Common.{◌≡◌, ◌∙◌, ◌||◌, ℕ, ◌<◌, ◌^◌, Bool, true, false, List, [], ◌∷◌, ◌++◌, length, get_or, set, eqb, sym, ap, refl, arith, append_assoc, if◌then◌else◌, ⊎_elim, replicate}
use Rattle.std.proofs.lemmas.Bool.Decides.{eqb_tells}
use Rattle.std.proofs.lemmas.List.{append-nil, get_or_default, get_or-replicate, get_or-set_same, get_or-set_other, length-replicate, length-set}
use Rattle.boot_listing.specs.Variables.{distinct_after, has_number}
use Rattle.boot_listing.specs.private.Marks.{AreMarks}

-- What `distinct_after` does at a number that came before, and at a new one.
known : (before numbers : List ℕ) (n : ℕ) → has_number before n ≡ true
    → distinct_after before (n ∷ numbers) ≡ distinct_after (n ∷ before) numbers
unfolding distinct_after
known before numbers n so =
    ap (λ (b : Bool). if b then distinct_after (n ∷ before) numbers else n ∷ distinct_after (n ∷ before) numbers) so

new : (before numbers : List ℕ) (n : ℕ) → has_number before n ≡ false
    → distinct_after before (n ∷ numbers) ≡ n ∷ distinct_after (n ∷ before) numbers
unfolding distinct_after
new before numbers n so =
    ap (λ (b : Bool). if b then distinct_after (n ∷ before) numbers else n ∷ distinct_after (n ∷ before) numbers) so

-- The rest of the numbers, where the first one is marked.
pub after_known : (numbers before left rest whole : List ℕ) (n : ℕ) → left ≡ n ∷ rest → has_number before n ≡ true
    → numbers ++ distinct_after before left ≡ whole → numbers ++ distinct_after (n ∷ before) rest ≡ whole
after_known numbers before left rest whole n is so whole_is =
    ap (λ (t : List ℕ). numbers ++ t) (sym (known before rest n so) ∙ ap (distinct_after before) (sym is)) ∙ whole_is

-- And where it isn't.
pub after_new : (numbers before left rest whole : List ℕ) (n : ℕ) → left ≡ n ∷ rest → has_number before n ≡ false
    → numbers ++ distinct_after before left ≡ whole → (numbers ++ n ∷ []) ++ distinct_after (n ∷ before) rest ≡ whole
after_new numbers before left rest whole n is so whole_is =
    append_assoc numbers (n ∷ []) (distinct_after (n ∷ before) rest)
    ∙ ap (λ (t : List ℕ). numbers ++ t) (sym (new before rest n so) ∙ ap (distinct_after before) (sym is)) ∙ whole_is

moved : (a b c : Bool) → a || (b || c) ≡ (b || a) || c
moved true true c = refl
moved true false c = refl
moved false true c = refl
moved false false c = refl

-- A number moves from those that are left to those before.
pub number_moved : (order before left rest : List ℕ) (n : ℕ) → left ≡ n ∷ rest
    → ((m : ℕ) → has_number order m ≡ has_number before m || has_number left m)
    → (m : ℕ) → has_number order m ≡ has_number (n ∷ before) m || has_number rest m
number_moved order before left rest n is all m =
    all m ∙ ap (λ (t : List ℕ). has_number before m || has_number t m) is
    ∙ moved (has_number before m) (eqb m n) (has_number rest m)

-- Its mark stays where it is known.
pub marks_kept : (before : List ℕ) (marks : List Bool) (n : ℕ) → AreMarks before marks → has_number before n ≡ true
    → AreMarks (n ∷ before) marks
marks_kept before marks n are so = record {
  count = are.count;
  each = λ m small. ⊎_elim
      (λ eq. are.each m small ∙ ap (has_number before) eq.1 ∙ so ∙ sym (ap (λ (b : Bool). b || has_number before m) eq.0))
      (λ ne. are.each m small ∙ sym (ap (λ (b : Bool). b || has_number before m) ne.0))
      (eqb_tells m n);
}

-- And is set where it is new.
pub marks_set : (before : List ℕ) (marks : List Bool) (n : ℕ) → AreMarks before marks → n < 2 ^ 16
    → AreMarks (n ∷ before) (set marks n true)
marks_set before marks n are within = record {
  count = length-set marks n true ∙ are.count;
  each = λ m small. ⊎_elim
      (λ eq. ap (λ (k : ℕ). get_or (set marks n true) k false) eq.1
      ∙ get_or-set_same marks n true false (omega (arith, within, are.count)) ∙ sym (ap (λ (b : Bool). b || has_number before m) eq.0))
      (λ ne. get_or-set_other marks n m true false ne.1 ∙ are.each m small ∙ sym (ap (λ (b : Bool). b || has_number before m) ne.0))
      (eqb_tells m n);
}

-- Before the first number.
pub no_marks : (marks : List Bool) → marks ≡ replicate 65536 false → AreMarks [] marks
no_marks marks all = record {
  count = ap length all ∙ length-replicate 65536 false;
  each = λ m small. ap (λ (t : List Bool). get_or t m false) all ∙ get_or-replicate 65536 m false false small;
}

or_false : (a : Bool) → a || false ≡ a
or_false true = refl
or_false false = refl

-- Once none is left, the marks are those of all.
pub marks_of_all : (order before left : List ℕ) (marks : List Bool) → left ≡ [] → AreMarks before marks
    → ((m : ℕ) → has_number order m ≡ has_number before m || has_number left m) → AreMarks order marks
marks_of_all order before left marks none are all = record {
  count = are.count;
  each = λ m small. are.each m small ∙ sym (all m ∙ ap (λ (t : List ℕ). has_number before m || has_number t m) none ∙ or_false _);
}

-- Whether a number came before, as its mark says.
pub mark_tells : (before : List ℕ) (marks : List Bool) (n i : ℕ) (mark : Bool) → AreMarks before marks → n < 2 ^ 16 → i ≡ n
    → mark ≡ get_or marks i mark → has_number before n ≡ mark
mark_tells before marks n i mark are small same is =
    sym (are.each n small) ∙ ap (λ (k : ℕ). get_or marks k false) (sym same)
    ∙ get_or_default marks i false mark (omega (arith, are.count, small, same)) ∙ sym is

-- The numbers, once none is left.
pub all_read : (numbers before left whole : List ℕ) → left ≡ [] → numbers ++ distinct_after before left ≡ whole → numbers ≡ whole
unfolding distinct_after
all_read numbers before left whole none is =
    sym (append-nil numbers) ∙ ap (λ (t : List ℕ). numbers ++ distinct_after before t) (sym none) ∙ is
