-- Texts that are cut at a mark, and arguments with commas between them.
use Rattle.std.proofs.Common.{◌≡◌, ℕ, ◌<◌, ◌==◌, List, [], ◌∷◌, ◌++◌, length, Bool, true, not, refl, arith, sym, ap, ◌∙◌, codes, append_assoc, eq-eqb}
use Rattle.std.specs.List.{list_all}
use Rattle.std.proofs.lemmas.Bool.{and_parts, and_from, not-true, cond-true, cond-false}
use Rattle.std.proofs.lemmas.List.Folds.{list_all-append}
use Rattle.uefi_path_text.specs.text.Arguments.{call, closed, is_argument, is_argument_character}
use Rattle.uefi_path_text.specs.parse.Parts.{cut_at, onto_first}

-- The text doesn't have the mark.
abbrev pub is_without : ℕ → List ℕ → Bool
is_without mark text = list_all (λ c. not (c == mark)) text

-- What passes a test passes a weaker one.
pub all_weaker : (p q : ℕ → Bool) → ((c : ℕ) → p c ≡ true → q c ≡ true) → (xs : List ℕ)
    → list_all p xs ≡ true → list_all q xs ≡ true
all_weaker p q weaker [] all = refl
all_weaker p q weaker (x ∷ xs) all =
    let parts = and_parts (p x) (list_all p xs) all in
    and_from _ _ (weaker x parts.0) (all_weaker p q weaker xs parts.1)

pub all_append : (p : ℕ → Bool) (xs ys : List ℕ) → list_all p xs ≡ true → list_all p ys ≡ true
    → list_all p (xs ++ ys) ≡ true
all_append p xs ys first second = list_all-append p xs ys ∙ and_from _ _ first second

-- A text without the mark is one part.
pub cut_whole : (mark : ℕ) (text : List ℕ) → is_without mark text ≡ true → cut_at mark text ≡ text ∷ []
cut_whole mark [] none = refl
cut_whole mark (c ∷ text) none =
    let parts = and_parts (not (c == mark)) (is_without mark text) none in
    cond-false (c == mark) _ _ (not-true (c == mark) parts.0) ∙ ap (onto_first c) (cut_whole mark text parts.1)

-- The first part ends at the first mark.
pub cut_first : (mark : ℕ) (text rest : List ℕ) → is_without mark text ≡ true
    → cut_at mark (text ++ mark ∷ rest) ≡ text ∷ cut_at mark rest
cut_first mark [] rest none = cond-true (mark == mark) _ _ (eq-eqb mark mark refl)
cut_first mark (c ∷ text) rest none =
    let parts = and_parts (not (c == mark)) (is_without mark text) none in
    cond-false (c == mark) _ _ (not-true (c == mark) parts.0) ∙ ap (onto_first c) (cut_first mark text rest parts.1)

-- A character of an argument is neither a comma nor a parenthesis.
no_comma : (c : ℕ) → is_argument_character c ≡ true → not (c == 0x2c) ≡ true
no_comma c fits = (and_parts _ _ fits).1

no_closing : (c : ℕ) → is_argument_character c ≡ true → not (c == 0x29) ≡ true
no_closing c fits = (and_parts _ _ (and_parts _ _ fits).0).1

no_opening : (c : ℕ) → is_argument_character c ≡ true → not (c == 0x28) ≡ true
no_opening c fits = (and_parts _ _ (and_parts _ _ (and_parts _ _ fits).0).0).1

-- An argument has no comma and no parenthesis.
pub argument_commas : (text : List ℕ) → is_argument text ≡ true → is_without 0x2c text ≡ true
argument_commas text is = all_weaker is_argument_character (λ c. not (c == 0x2c)) no_comma text is

pub argument_closing : (text : List ℕ) → is_argument text ≡ true → is_without 0x29 text ≡ true
argument_closing text is = all_weaker is_argument_character (λ c. not (c == 0x29)) no_closing text is

pub argument_opening : (text : List ℕ) → is_argument text ≡ true → is_without 0x28 text ≡ true
argument_opening text is = all_weaker is_argument_character (λ c. not (c == 0x28)) no_opening text is

-- Arguments with commas between them.
abbrev pub joined : List (List ℕ) → List ℕ
joined [] = []
joined (a ∷ []) = a
joined (a ∷ b ∷ more) = a ++ 0x2c ∷ joined (b ∷ more)

-- Each of the texts can be an argument.
abbrev pub are_arguments : List (List ℕ) → Bool
are_arguments arguments = list_all is_argument arguments

-- The arguments are closed by the parenthesis.
pub closed_joined : (arguments : List (List ℕ)) → closed arguments ≡ joined arguments ++ codes ")"
closed_joined [] = refl
closed_joined (a ∷ []) = refl
closed_joined (a ∷ b ∷ more) =
    ap (λ l. a ++ (codes "," ++ l)) (closed_joined (b ∷ more)) ∙ sym (append_assoc a (0x2c ∷ joined (b ∷ more)) (codes ")"))

-- Joined arguments are cut into them again.
pub joined_cut : (arguments : List (List ℕ)) → 0 < length arguments → are_arguments arguments ≡ true
    → cut_at 0x2c (joined arguments) ≡ arguments
joined_cut [] some are = absurd (omega arith)
joined_cut (a ∷ []) some are = cut_whole 0x2c a (argument_commas a (and_parts _ true are).0)
joined_cut (a ∷ b ∷ more) some are =
    let parts = and_parts (is_argument a) (are_arguments (b ∷ more)) are in
    cut_first 0x2c a (joined (b ∷ more)) (argument_commas a parts.0)
    ∙ ap (λ l. a ∷ l) (joined_cut (b ∷ more) (omega arith) parts.1)

-- What each character of an argument and the comma pass, joined arguments pass.
pub joined_pass : (p : ℕ → Bool) → p 0x2c ≡ true → ((c : ℕ) → is_argument_character c ≡ true → p c ≡ true)
    → (arguments : List (List ℕ)) → are_arguments arguments ≡ true → list_all p (joined arguments) ≡ true
joined_pass p comma each [] are = refl
joined_pass p comma each (a ∷ []) are = all_weaker is_argument_character p each a (and_parts _ true are).0
joined_pass p comma each (a ∷ b ∷ more) are =
    let parts = and_parts (is_argument a) (are_arguments (b ∷ more)) are in
    all_append p a _ (all_weaker is_argument_character p each a parts.0)
    (and_from _ _ comma (joined_pass p comma each (b ∷ more) parts.1))

-- Joined arguments have no parenthesis.
pub joined_closing : (arguments : List (List ℕ)) → are_arguments arguments ≡ true → is_without 0x29 (joined arguments) ≡ true
joined_closing arguments are = joined_pass (λ c. not (c == 0x29)) refl no_closing arguments are

pub joined_opening : (arguments : List (List ℕ)) → are_arguments arguments ≡ true → is_without 0x28 (joined arguments) ≡ true
joined_opening arguments are = joined_pass (λ c. not (c == 0x28)) refl no_opening arguments are

-- Where the last argument is itself of several, these are arguments of the whole.
pub joined_more : (front : List (List ℕ)) (b : List ℕ) (back : List (List ℕ))
    → joined (front ++ joined (b ∷ back) ∷ []) ≡ joined (front ++ b ∷ back)
joined_more [] b back = refl
joined_more (a ∷ []) b back = refl
joined_more (a ∷ c ∷ front) b back = ap (λ l. a ++ 0x2c ∷ l) (joined_more (c ∷ front) b back)

-- A call is its name, and its joined arguments in parentheses.
pub call_joined : (name : List ℕ) (arguments : List (List ℕ))
    → call name arguments ≡ name ++ 0x28 ∷ (joined arguments ++ 0x29 ∷ [])
call_joined name arguments = ap (λ l. name ++ 0x28 ∷ l) (closed_joined arguments)
