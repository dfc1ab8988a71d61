-- Where the piece at the start of a text ends.
use Rattle.std.proofs.Common.{◌≡◌, ℕ, suc, ◌+◌, ◌==◌, ◌&&◌, ◌⊎◌, inl, inr, List, [], ◌∷◌, ◌++◌, length, Bool, true, false, cond, not, refl, arith, sym, ap, ◌∙◌, take, drop, Option, Some, None, nat_eq}
use Rattle.std.proofs.Common.{eqb-true, ⊎_elim}
use Rattle.std.specs.List.{list_all, find, before_first, after_first}
use Rattle.std.specs.Option.{option_eq}
use Rattle.std.proofs.lemmas.Bool.{and_parts, cond-true, cond-false}
use Rattle.std.proofs.lemmas.Bool.Decides.{nat_tests}
use Rattle.std.proofs.lemmas.List.{nil_from_length}
use Rattle.uefi_path.specs.Node.{Node}
use Rattle.uefi_path_text.specs.text.FileName.{is_node_character, reads_as_node}
use Rattle.uefi_path_text.specs.private.Pieces.{up_to, through, is_opening, is_closing, is_mark, is_cut, piece_at}
use Rattle.uefi_path_text.specs.parse.Nodes.{is_plain_byte, is_closed, is_file_name, piece_node, after_name}

-- What follows the first character that passes a test.
abbrev pub beyond : (ℕ → Bool) → List ℕ → List ℕ
beyond stop [] = []
beyond stop (c ∷ text) = cond (stop c) text (beyond stop text)

front_step : (b : Bool) (c : ℕ) (text front : List ℕ) (n : ℕ) → take n text ≡ front
    → take (cond (not b) (1 + n) 0) (c ∷ text) ≡ cond b [] (c ∷ front)
front_step true c text front n is = refl
front_step false c text front n is =
    let count : 1 + n ≡ suc n = omega arith in ap (λ k. take k (c ∷ text)) count ∙ ap (λ l. c ∷ l) is

pub before_first_is : (stop : ℕ → Bool) (text : List ℕ) → before_first stop text ≡ up_to stop text
before_first_is stop [] = refl
before_first_is stop (c ∷ text) = front_step (stop c) c text _ _ (before_first_is stop text)

back_step : (b : Bool) (c : ℕ) (text back : List ℕ) (n : ℕ) → drop (n + 1) text ≡ back
    → drop (cond (not b) (1 + n) 0 + 1) (c ∷ text) ≡ cond b text back
back_step true c text back n is = refl
back_step false c text back n is =
    let count : 1 + n + 1 ≡ suc (n + 1) = omega arith in ap (λ k. drop k (c ∷ text)) count ∙ is

pub after_first_is : (stop : ℕ → Bool) (text : List ℕ) → after_first stop text ≡ beyond stop text
after_first_is stop [] = refl
after_first_is stop (c ∷ text) = back_step (stop c) c text _ _ (after_first_is stop text)

-- A text whose only such character is its last ends there, whatever follows.
last_step : (b : Bool) (c : ℕ) (text front whole : List ℕ) → (length text ≡ length front + 1 → whole ≡ text)
    → length (c ∷ text) ≡ length (cond b [] (c ∷ front)) + 1 → c ∷ cond b [] whole ≡ c ∷ text
last_step true c text front whole others one = ap (λ l. c ∷ l) (sym (nil_from_length text (omega arith)))
last_step false c text front whole others one = ap (λ l. c ∷ l) (others (omega arith))

last_ends : (stop : ℕ → Bool) (text rest : List ℕ) → length text ≡ length (up_to stop text) + 1
    → through stop (text ++ rest) ≡ text
last_ends stop [] rest one = absurd (omega arith)
last_ends stop (c ∷ text) rest one =
    last_step (stop c) c text (up_to stop text) (through stop (text ++ rest)) (last_ends stop text rest) one

-- What a name is followed by: neither parenthesis is a character of it.
abbrev reads_found : Option ℕ → Bool
reads_found found = option_eq nat_eq found (Some 0x28)

no_opening : (c : ℕ) → is_node_character c ≡ true → is_opening c ≡ false
no_opening c is = grind (arith, nat_tests)

no_closing : (c : ℕ) → is_node_character c ≡ true → is_closing c ≡ false
no_closing c is = grind (arith, nat_tests)

abbrev find_end : List ℕ → Option ℕ
find_end text = find (λ c. not (is_node_character c)) text

call_step : (node : Bool) (c : ℕ) (piece rest : List ℕ) → is_node_character c ≡ node
    → (reads_as_node piece ≡ true → length (beyond is_opening piece) ≡ length (up_to is_closing (beyond is_opening piece)) + 1
    → (reads_as_node (piece ++ rest) ≡ true) × (through is_closing (piece ++ rest) ≡ piece))
    → reads_found (cond (not node) (Some c) (find_end piece)) ≡ true
    → length (beyond is_opening (c ∷ piece)) ≡ length (up_to is_closing (beyond is_opening (c ∷ piece))) + 1
    → (reads_found (cond (not node) (Some c) (find_end (piece ++ rest))) ≡ true) × (through is_closing (c ∷ piece ++ rest) ≡ c ∷ piece)
call_step true c piece rest is others reads one =
    let more = others reads (rw (no_opening c is) at one) in
    (more.0, ap (λ b. c ∷ cond b [] (through is_closing (piece ++ rest))) (no_closing c is) ∙ ap (λ l. c ∷ l) more.1)
call_step false c piece rest is others reads one =
    let opening : c ≡ 0x28 = eqb-true c 0x28 reads in
    let last = rw reads at one in
    let closing : is_closing c ≡ false = ap is_closing opening in
    (reads, ap (λ b. c ∷ cond b [] (through is_closing (piece ++ rest))) closing ∙ ap (λ l. c ∷ l) (last_ends is_closing piece rest last))

call_ends : (piece rest : List ℕ) → reads_as_node piece ≡ true
    → length (beyond is_opening piece) ≡ length (up_to is_closing (beyond is_opening piece)) + 1
    → (reads_as_node (piece ++ rest) ≡ true) × (through is_closing (piece ++ rest) ≡ piece)
call_ends [] rest reads one = absurd (omega arith)
call_ends (c ∷ piece) rest reads one =
    call_step (is_node_character c) c piece rest refl (call_ends piece rest) reads one

either : (a b : Bool) → not (not a && not b) ≡ true → (a ≡ true) ⊎ (b ≡ true)
either true b is = inl refl
either false true is = inr refl
either false false is = cc

mark_cases : (c : ℕ) → is_mark c ≡ true → (c ≡ 0x2f) ⊎ (c ≡ 0x2c)
mark_cases c is = ⊎_elim (λ slash. inl (eqb-true c 0x2f slash)) (λ comma. inr (eqb-true c 0x2c comma)) (either (c == 0x2f) (c == 0x2c) is)

pub mark_reads : (c : ℕ) (found : Option ℕ) → is_mark c ≡ true
    → reads_found (cond (not (is_node_character c)) (Some c) found) ≡ false
mark_reads c found is =
    let at : ℕ → Bool = λ d. reads_found (cond (not (is_node_character d)) (Some d) found) in
    ⊎_elim (λ slash. ap at slash) (λ comma. ap at comma) (mark_cases c is)

rest_reads : (rest : List ℕ) → is_cut rest ≡ true → reads_as_node rest ≡ false
rest_reads [] cut = refl
rest_reads (c ∷ rest) cut = mark_reads c _ cut

name_step : (node : Bool) (c : ℕ) (found more : Option ℕ) → (reads_found found ≡ false → reads_found more ≡ false)
    → reads_found (cond (not node) (Some c) found) ≡ false → reads_found (cond (not node) (Some c) more) ≡ false
name_step true c found more others reads = others reads
name_step false c found more others reads = reads

name_reads : (piece rest : List ℕ) → is_cut rest ≡ true → reads_as_node piece ≡ false → reads_as_node (piece ++ rest) ≡ false
name_reads [] rest cut reads = rest_reads rest cut
name_reads (c ∷ piece) rest cut reads = name_step (is_node_character c) c _ _ (name_reads piece rest cut) reads

-- A name has neither of these, so it ends at the first of them.
rest_ends : (rest : List ℕ) → is_cut rest ≡ true → up_to is_mark rest ≡ []
rest_ends [] cut = refl
rest_ends (c ∷ rest) cut = cond-true (is_mark c) _ _ cut

name_ends : (piece rest : List ℕ) → is_cut rest ≡ true → list_all is_plain_byte piece ≡ true
    → up_to is_mark (piece ++ rest) ≡ piece
name_ends [] rest cut plain = rest_ends rest cut
name_ends (c ∷ piece) rest cut plain =
    let parts = and_parts (is_plain_byte c) (list_all is_plain_byte piece) plain in
    cond-false (is_mark c) _ _ (ap not parts.0) ∙ ap (λ l. c ∷ l) (name_ends piece rest cut parts.1)

-- What a piece is: a call that its last character closes, or a name.
piece_cases : (reads closed name : Bool) (a b : Option Node) (node : Node)
    → cond reads (cond closed a None) (cond name b None) ≡ Some node
    → ((reads ≡ true) × (closed ≡ true)) ⊎ ((reads ≡ false) × (name ≡ true))
piece_cases true true name a b node is = inl (refl, refl)
piece_cases true false name a b node is = cc
piece_cases false closed true a b node is = inr (refl, refl)
piece_cases false closed false a b node is = cc

pub call_or_name : (piece : List ℕ) (node : Node) → piece_node piece ≡ Some node
    → ((reads_as_node piece ≡ true) × (is_closed piece ≡ true)) ⊎ ((reads_as_node piece ≡ false) × (is_file_name piece ≡ true))
unfolding piece_node
call_or_name piece node is = piece_cases _ _ _ _ _ node is

closed_lengths : (piece : List ℕ) → is_closed piece ≡ true
    → length (beyond is_opening piece) ≡ length (up_to is_closing (beyond is_opening piece)) + 1
closed_lengths piece closed =
    let after = after_first_is is_opening piece in
    let front = ap (up_to is_closing) after in
    sym (ap length after) ∙ eqb-true _ _ closed ∙ ap (λ l. length l + 1) (before_first_is is_closing (after_name piece) ∙ front)

pub plain_name : (piece : List ℕ) → is_file_name piece ≡ true → list_all is_plain_byte piece ≡ true
plain_name piece name = (and_parts _ _ (and_parts _ _ name).0).1

pub piece_ends : (piece rest : List ℕ) (node : Node) → piece_node piece ≡ Some node → is_cut rest ≡ true
    → piece_at (piece ++ rest) ≡ piece
piece_ends piece rest node is cut =
    ⊎_elim (λ call. let ends = call_ends piece rest call.0 (closed_lengths piece call.1) in cond-true _ _ _ ends.0 ∙ ends.1)
    (λ name. cond-false _ _ _ (name_reads piece rest cut name.0) ∙ name_ends piece rest cut (plain_name piece name.1))
    (call_or_name piece node is)
