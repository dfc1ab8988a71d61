-- The first slash or comma of a text.
use Rattle.std.proofs.Common.{◌≡◌, ◌∙◌, ◌==◌, ◌&&◌, ℕ, List, [], ◌∷◌, Bool, true, false, not, cond, refl, ap, Option, Some, None, nat_eq, Bor}
use Rattle.std.specs.List.{before_first, find}
use Rattle.std.specs.Option.{option_eq, option_map}
use Rattle.uefi_path_text.specs.private.Pieces.{up_to, is_mark}
use Rattle.uefi_path_text.proofs.reading.Ends.{before_first_is}

-- A byte that was found is compared as it is.
pub same_byte : (found : Option (Bor ℕ)) (byte : Bor ℕ)
    → option_eq (λ a b. nat_eq a.now b.now) found (Some byte) ≡ option_eq nat_eq (option_map (λ a. a.now) found) (Some byte.now)
same_byte None byte = refl
same_byte (Some a) byte = refl

-- The first mark is a slash or a comma.
abbrev first_is_slash : Option ℕ → Bool
first_is_slash found = option_eq nat_eq found (Some 0x2f)

slash_step : (slash comma : Bool) (c : ℕ) (found : Option ℕ) (front whole : List ℕ) → (c == 0x2f) ≡ slash
    → (first_is_slash found ≡ true → front ≡ whole)
    → first_is_slash (cond (not (not slash && not comma)) (Some c) found) ≡ true
    → cond slash [] (c ∷ front) ≡ cond (not (not slash && not comma)) [] (c ∷ whole)
slash_step true comma c found front whole own others is = refl
slash_step false true c found front whole own others is = let same : (c == 0x2f) ≡ true = is in cc
slash_step false false c found front whole own others is = ap (λ l. c ∷ l) (others is)

up_to_slash : (text : List ℕ) → first_is_slash (find is_mark text) ≡ true → up_to (λ c. c == 0x2f) text ≡ up_to is_mark text
up_to_slash [] is = refl
up_to_slash (c ∷ text) is =
    slash_step (c == 0x2f) (c == 0x2c) c (find is_mark text) (up_to (λ d. d == 0x2f) text) (up_to is_mark text) refl
    (up_to_slash text) is

comma_step : (slash comma : Bool) (c : ℕ) (found : Option ℕ) (front whole : List ℕ) → (c == 0x2f) ≡ slash
    → (first_is_slash found ≡ false → front ≡ whole)
    → first_is_slash (cond (not (not slash && not comma)) (Some c) found) ≡ false
    → cond comma [] (c ∷ front) ≡ cond (not (not slash && not comma)) [] (c ∷ whole)
comma_step true comma c found front whole own others is = let other : (c == 0x2f) ≡ false = is in cc
comma_step false true c found front whole own others is = refl
comma_step false false c found front whole own others is = ap (λ l. c ∷ l) (others is)

up_to_comma : (text : List ℕ) → first_is_slash (find is_mark text) ≡ false → up_to (λ c. c == 0x2c) text ≡ up_to is_mark text
up_to_comma [] is = refl
up_to_comma (c ∷ text) is =
    comma_step (c == 0x2f) (c == 0x2c) c (find is_mark text) (up_to (λ d. d == 0x2c) text) (up_to is_mark text) refl
    (up_to_comma text) is

pub before_slash : (text : List ℕ) → first_is_slash (find is_mark text) ≡ true
    → before_first (λ c. c == 0x2f) text ≡ up_to is_mark text
before_slash text is = before_first_is (λ c. c == 0x2f) text ∙ up_to_slash text is

pub before_comma : (text : List ℕ) → first_is_slash (find is_mark text) ≡ false
    → before_first (λ c. c == 0x2c) text ≡ up_to is_mark text
before_comma text is = before_first_is (λ c. c == 0x2c) text ∙ up_to_comma text is
