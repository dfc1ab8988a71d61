-- Where the parts of a piece are in a text.
use Rattle.std.proofs.Common.{◌≡◌, ◌<◌, ◌≤◌, ◌+◌, ◌==◌, ◌&&◌, ℕ, List, [], ◌∷◌, ◌++◌, length, take, drop, Bool, true, false, not, cond, refl, sym, ◌∙◌, ap, arith, append_assoc, Option, Some, None, nat_eq, eqb-true, ne_eqb, subst}
use Rattle.std.specs.List.{list_all, before_first, after_first, position_or_len}
use Rattle.std.specs.Option.{option_eq}
use Rattle.std.proofs.lemmas.Bool.{and_parts, and_from, cond-true, cond-false, not-true, not_from_false}
use Rattle.std.proofs.lemmas.List.{take_all, nil_from_length}
use Rattle.uefi_path.specs.Node.{Node}
use Rattle.uefi_path_text.specs.text.FileName.{is_node_character, reads_as_node, is_name_character}
use Rattle.std.specs.Str.{chars}
use Rattle.uefi_path_text.specs.parse.Nodes.{is_plain_byte, is_file_name, name_node, if_written, is_closed, arguments_of, piece_node, call_node, first_node}
use Rattle.uefi_path_text.specs.private.Pieces.{up_to, through, is_closing, is_mark, piece_at}
use Rattle.uefi_path_text.specs.parse.Arguments.{texts_of}
use Rattle.uefi_path_text.specs.AllForms.{forms}
use Rattle.uefi_path_text.specs.private.Readings.{named}
use Rattle.uefi_path_text.proofs.reading.Ends.{beyond, before_first_is, after_first_is}
use Rattle.uefi_path_text.proofs.reading.CutTexts.{is_without, all_weaker, all_append}
use Rattle.uefi_path_text.proofs.reading.NamePieces.{named_piece, other_piece, name_written, name_too_long}
use Rattle.uefi_path_text.proofs.reading.Calls.{is_node_name, piece_call, named_reads, named_after}

-- What is before the first mark has none.
without_step : (b : Bool) (p : ℕ → Bool) (c : ℕ) (text : List ℕ) → p c ≡ b → list_all (λ d. not (p d)) text ≡ true
    → list_all (λ d. not (p d)) (cond b [] (c ∷ text)) ≡ true
without_step true p c text own others = refl
without_step false p c text own others = and_from _ _ (ap not own) others

pub up_to_without : (p : ℕ → Bool) (text : List ℕ) → list_all (λ c. not (p c)) (up_to p text) ≡ true
up_to_without p [] = refl
up_to_without p (c ∷ text) = without_step (p c) p c (up_to p text) refl (up_to_without p text)

-- A text is what is before the first mark, the mark, and what is after it.
parted_step : (b : Bool) (mark c : ℕ) (text : List ℕ) → (c == mark) ≡ b
    → (length (up_to (λ d. d == mark) text) < length text
    → text ≡ up_to (λ d. d == mark) text ++ (mark ∷ beyond (λ d. d == mark) text))
    → length (cond b [] (c ∷ up_to (λ d. d == mark) text)) < length (c ∷ text)
    → c ∷ text ≡ cond b [] (c ∷ up_to (λ d. d == mark) text) ++ (mark ∷ cond b text (beyond (λ d. d == mark) text))
parted_step true mark c text own others some = ap (λ d. d ∷ text) (eqb-true c mark own)
parted_step false mark c text own others some = ap (λ l. c ∷ l) (others (omega arith))

parted : (mark : ℕ) (text : List ℕ) → length (up_to (λ c. c == mark) text) < length text
    → text ≡ up_to (λ c. c == mark) text ++ (mark ∷ beyond (λ c. c == mark) text)
parted mark [] some = absurd (omega (arith, some))
parted mark (c ∷ text) some = parted_step (c == mark) mark c text refl (parted mark text) some

-- The same by what `split_once` says.
length_step : (b : Bool) (c : ℕ) (front : List ℕ) (n : ℕ) → length front ≡ n
    → length (cond b [] (c ∷ front)) ≡ cond (not b) (1 + n) 0
length_step true c front n is = refl
length_step false c front n is = omega (arith, is)

up_to_length : (p : ℕ → Bool) (text : List ℕ) → length (up_to p text) ≡ position_or_len p text
up_to_length p [] = refl
up_to_length p (c ∷ text) = length_step (p c) c (up_to p text) (position_or_len p text) (up_to_length p text)

pub split_text : (mark : ℕ) (text front back : List ℕ) → front ≡ before_first (λ c. c == mark) text
    → back ≡ after_first (λ c. c == mark) text → position_or_len (λ c. c == mark) text < length text
    → text ≡ front ++ (mark ∷ back)
split_text mark text front back before after some =
    let short : length (up_to (λ c. c == mark) text) < length text = omega (arith, up_to_length (λ c. c == mark) text, some) in
    let own : up_to (λ c. c == mark) text ≡ front = sym (before ∙ before_first_is (λ c. c == mark) text) in
    let others : beyond (λ c. c == mark) text ≡ back = sym (after ∙ after_first_is (λ c. c == mark) text) in
    parted mark text short ∙ (λ i. own i ++ (mark ∷ others i))

pub front_without : (mark : ℕ) (text front : List ℕ) → front ≡ before_first (λ c. c == mark) text
    → is_without mark front ≡ true
front_without mark text front before =
    ap (is_without mark) (before ∙ before_first_is (λ c. c == mark) text) ∙ up_to_without (λ c. c == mark) text

pub text_without : (mark : ℕ) (text : List ℕ) → position_or_len (λ c. c == mark) text ≡ length text
    → is_without mark text ≡ true
text_without mark text none =
    let all : before_first (λ c. c == mark) text ≡ text =
    ap (λ n. take n text) none ∙ take_all (length text) text (omega arith) in
    ap (is_without mark) (sym all) ∙ front_without mark text _ refl

-- Through the first mark.
through_at : (p : ℕ → Bool) (front : List ℕ) (mark : ℕ) (rest : List ℕ) → list_all (λ c. not (p c)) front ≡ true
    → p mark ≡ true → through p (front ++ (mark ∷ rest)) ≡ front ++ (mark ∷ [])
through_at p [] mark rest none is = ap (λ l. mark ∷ l) (cond-true (p mark) _ _ is)
through_at p (c ∷ front) mark rest none is =
    let parts = and_parts (not (p c)) _ none in
    ap (λ l. c ∷ l) (cond-false (p c) _ _ (not-true (p c) parts.0) ∙ through_at p front mark rest parts.1 is)

through_all : (p : ℕ → Bool) (text : List ℕ) → list_all (λ c. not (p c)) text ≡ true → through p text ≡ text
through_all p [] none = refl
through_all p (c ∷ text) none =
    let parts = and_parts (not (p c)) _ none in
    ap (λ l. c ∷ l) (cond-false (p c) _ _ (not-true (p c) parts.0) ∙ through_all p text parts.1)

-- A name has no parenthesis.
no_closing : (c : ℕ) → is_node_character c ≡ true → not (c == 0x29) ≡ true
no_closing c is = not_from_false (c == 0x29) (ne_eqb c 0x29 (λ same.
    let wrong : false ≡ true = subst (λ x. is_node_character x ≡ true) same is in cc))

name_front : (name arguments : List ℕ) → is_node_name name ≡ true → is_without 0x29 arguments ≡ true
    → is_without 0x29 (name ++ (0x28 ∷ arguments)) ≡ true
name_front name arguments named none =
    all_append (λ c. not (c == 0x29)) name (0x28 ∷ arguments)
    (all_weaker is_node_character (λ c. not (c == 0x29)) no_closing name named) none

-- A call is through its parenthesis, and has the node of the name and the arguments.
pub closed_at : (name after arguments rest : List ℕ) → is_node_name name ≡ true → is_without 0x29 arguments ≡ true
    → after ≡ arguments ++ (0x29 ∷ rest)
    → piece_at (name ++ (0x28 ∷ after)) ≡ name ++ (0x28 ∷ (arguments ++ (0x29 ∷ [])))
closed_at name after arguments rest named none is =
    cond-true _ _ _ (named_reads name after named)
    ∙ ap (λ l. through is_closing (name ++ (0x28 ∷ l))) is
    ∙ ap (through is_closing) (sym (append_assoc name (0x28 ∷ arguments) (0x29 ∷ rest)))
    ∙ through_at is_closing (name ++ (0x28 ∷ arguments)) 0x29 rest (name_front name arguments named none) refl
    ∙ append_assoc name (0x28 ∷ arguments) (0x29 ∷ [])

pub closed_node : (name after arguments rest : List ℕ) → is_node_name name ≡ true → is_without 0x29 arguments ≡ true
    → after ≡ arguments ++ (0x29 ∷ rest) → piece_node (piece_at (name ++ (0x28 ∷ after))) ≡ call_node name arguments
closed_node name after arguments rest named none is =
    ap piece_node (closed_at name after arguments rest named none is) ∙ piece_call name arguments named none

pub closed_split : (name after arguments rest : List ℕ) → is_node_name name ≡ true → is_without 0x29 arguments ≡ true
    → after ≡ arguments ++ (0x29 ∷ rest)
    → name ++ (0x28 ∷ after) ≡ piece_at (name ++ (0x28 ∷ after)) ++ rest
closed_split name after arguments rest named none is =
    ap (λ l. name ++ (0x28 ∷ l)) is
    ∙ ap (λ l. name ++ (0x28 ∷ l)) (sym (append_assoc arguments (0x29 ∷ []) rest))
    ∙ sym (append_assoc name (0x28 ∷ (arguments ++ (0x29 ∷ []))) rest)
    ∙ ap (λ l. l ++ rest) (sym (closed_at name after arguments rest named none is))

-- All of a text without a mark is before it.
up_to_all : (p : ℕ → Bool) (text : List ℕ) → list_all (λ c. not (p c)) text ≡ true → up_to p text ≡ text
up_to_all p [] none = refl
up_to_all p (c ∷ text) none =
    let parts = and_parts (not (p c)) _ none in
    cond-false (p c) _ _ (not-true (p c) parts.0) ∙ ap (λ l. c ∷ l) (up_to_all p text parts.1)

-- A call that isn't closed has no node.
pub unclosed_node : (name after : List ℕ) → is_node_name name ≡ true → is_without 0x29 after ≡ true
    → piece_node (piece_at (name ++ (0x28 ∷ after))) ≡ None
unfolding piece_node
unclosed_node name after named none =
    let piece : List ℕ = name ++ (0x28 ∷ after) in
    let reads : reads_as_node piece ≡ true = named_reads name after named in
    let all : piece_at piece ≡ piece =
    cond-true _ _ _ reads ∙ through_all is_closing piece (name_front name after named none) in
    let own : arguments_of piece ≡ after =
    ap (before_first (λ c. c == 0x29)) (named_after name after named) ∙ before_first_is (λ c. c == 0x29) after
    ∙ up_to_all (λ c. c == 0x29) after none in
    let open_ : is_closed piece ≡ false =
    (λ i. length (named_after name after named i) == length (own i) + 1)
    ∙ ne_eqb (length after) (length after + 1) (λ same. omega (arith, same)) in
    ap piece_node all ∙ cond-true (reads_as_node piece) _ _ reads ∙ cond-false (is_closed piece) _ _ open_

-- A text begins with what is up to a mark.
rest_step : (b : Bool) (c : ℕ) (text front : List ℕ) → text ≡ front ++ drop (length front) text
    → c ∷ text ≡ cond b [] (c ∷ front) ++ drop (length (cond b [] (c ∷ front))) (c ∷ text)
rest_step true c text front is = refl
rest_step false c text front is = ap (λ l. c ∷ l) is

pub up_to_rest : (p : ℕ → Bool) (text : List ℕ) → text ≡ up_to p text ++ drop (length (up_to p text)) text
up_to_rest p [] = refl
up_to_rest p (c ∷ text) = rest_step (p c) c text (up_to p text) (up_to_rest p text)

-- The node of a name and arguments, by what the forms make of them.
pub no_form : (found name arguments : List ℕ) → found ≡ name → named found forms ≡ [] → call_node name arguments ≡ None
unfolding call_node
no_form found name arguments same none =
    ap (λ l. first_node (named l forms) (texts_of arguments)) (sym same) ∙ ap (λ l. first_node l (texts_of arguments)) none

pub by_forms : (found name given_ arguments : List ℕ) (node : Option Node) → found ≡ name → given_ ≡ arguments
    → first_node (named found forms) (texts_of given_) ≡ node → call_node name arguments ≡ node
unfolding call_node
by_forms found name given_ arguments node same also is =
    (λ i. first_node (named (sym same i) forms) (texts_of (sym also i))) ∙ is

-- A text doesn't read as a node if no parenthesis is in it, or no name of nodes is before that.
abbrev reads_found : Option ℕ → Bool
reads_found found = option_eq nat_eq found (Some 0x28)

other_step : (node : Bool) (c : ℕ) (found : Option ℕ) → (c == 0x28) ≡ false → (node ≡ true → reads_found found ≡ false)
    → reads_found (cond (not node) (Some c) found) ≡ false
other_step true c found none others = others refl
other_step false c found none others = none

other_reads : (name rest : List ℕ) → is_node_name name ≡ false → is_without 0x28 name ≡ true
    → reads_as_node (name ++ rest) ≡ false
other_reads [] rest named none = cc
other_reads (c ∷ name) rest named none =
    let parts = and_parts (not (c == 0x28)) (is_without 0x28 name) none in
    other_step (is_node_character c) c _ (not-true (c == 0x28) parts.0)
    (λ node. other_reads name rest (sym (ap (λ b. b && is_node_name name) node) ∙ named) parts.1)

pub no_parenthesis_reads : (text : List ℕ) → is_without 0x28 text ≡ true → reads_as_node text ≡ false
no_parenthesis_reads [] none = refl
no_parenthesis_reads (c ∷ text) none =
    let parts = and_parts (not (c == 0x28)) (is_without 0x28 text) none in
    other_step (is_node_character c) c _ (not-true (c == 0x28) parts.0) (λ node. no_parenthesis_reads text parts.1)

pub other_name_reads : (text name after : List ℕ) → text ≡ name ++ (0x28 ∷ after) → is_node_name name ≡ false
    → is_without 0x28 name ≡ true → reads_as_node text ≡ false
other_name_reads text name after is named none = ap reads_as_node is ∙ other_reads name (0x28 ∷ after) named none

-- What is before the parenthesis of a text that reads as a node is a name.
found_name : (named : Bool) (text name after : List ℕ) → is_node_name name ≡ named → text ≡ name ++ (0x28 ∷ after)
    → is_without 0x28 name ≡ true → reads_as_node text ≡ true → is_node_name name ≡ true
found_name true text name after own is none reads = own
found_name false text name after own is none reads = let other = other_name_reads text name after is own none in cc

pub name_found : (text name after : List ℕ) → text ≡ name ++ (0x28 ∷ after) → is_without 0x28 name ≡ true
    → reads_as_node text ≡ true → is_node_name name ≡ true
name_found text name after is none reads = found_name (is_node_name name) text name after refl is none reads

-- What is up to a mark doesn't read as a node, if the text doesn't.
front_step : (mark node : Bool) (c : ℕ) (front found : Option ℕ) → (reads_found found ≡ false → reads_found front ≡ false)
    → reads_found (cond (not node) (Some c) found) ≡ false
    → reads_found (cond (not node) (Some c) front) ≡ false
front_step mark true c front found others reads = others reads
front_step mark false c front found others reads = reads

cut_step : (mark : Bool) (c : ℕ) (text : List ℕ) → reads_as_node (c ∷ text) ≡ false → reads_as_node (cond mark [] (c ∷ text)) ≡ false
cut_step true c text reads = refl
cut_step false c text reads = reads

pub front_reads : (text : List ℕ) → reads_as_node text ≡ false → reads_as_node (up_to is_mark text) ≡ false
front_reads [] reads = refl
front_reads (c ∷ text) reads =
    cut_step (is_mark c) c (up_to is_mark text)
    (front_step (is_mark c) (is_node_character c) c _ _ (front_reads text) reads)

-- The piece is a file's name.
pub name_piece : (text : List ℕ) → reads_as_node text ≡ false → piece_at text ≡ up_to is_mark text
name_piece text reads = cond-false _ _ _ reads

not_not : (b : Bool) → not (not b) ≡ true → b ≡ true
not_not true is = refl
not_not false is = is

both_marks : (c : ℕ) → not (is_mark c) ≡ true → is_plain_byte c ≡ true
both_marks c is = not_not (is_plain_byte c) is

no_name : (b : Bool) → (b && false) ≡ false
no_name true = refl
no_name false = refl

-- It has no node if it is empty, or has another character.
pub name_empty : (text name : List ℕ) → reads_as_node text ≡ false → name ≡ up_to is_mark text → true ≡ (length name == 0)
    → piece_node (piece_at text) ≡ None
unfolding piece_node
name_empty text name reads is none =
    let nothing : name ≡ [] = nil_from_length name (eqb-true (length name) 0 (sym none)) in
    ap piece_node (name_piece text reads ∙ sym is ∙ nothing)

pub name_wrong : (text name : List ℕ) → reads_as_node text ≡ false → name ≡ up_to is_mark text
    → false ≡ list_all is_name_character (chars name) → piece_node (piece_at text) ≡ None
name_wrong text name reads is other =
    let own : reads_as_node name ≡ false = ap reads_as_node is ∙ front_reads text reads in
    let none : is_file_name name ≡ false =
    ap (λ b. (not (length name == 0) && list_all is_plain_byte name) && b) (sym other)
    ∙ no_name (not (length name == 0) && list_all is_plain_byte name) in
    ap piece_node (name_piece text reads ∙ sym is) ∙ other_piece name own none

-- And else it has that of the name, if it isn't too long.
named_node : (text name : List ℕ) → reads_as_node text ≡ false → name ≡ up_to is_mark text → false ≡ (length name == 0)
    → true ≡ list_all is_name_character (chars name) → piece_node (piece_at text) ≡ if_written (name_node name)
named_node text name reads is some all =
    let own : reads_as_node name ≡ false = ap reads_as_node is ∙ front_reads text reads in
    let plain : list_all is_plain_byte name ≡ true =
    ap (list_all is_plain_byte) is
    ∙ all_weaker (λ c. not (is_mark c)) is_plain_byte both_marks (up_to is_mark text) (up_to_without is_mark text) in
    let named : is_file_name name ≡ true = and_from _ _ (and_from _ _ (ap not (sym some)) plain) (sym all) in
    ap piece_node (name_piece text reads ∙ sym is) ∙ named_piece name own named

pub name_right : (text name : List ℕ) (node : Node) → reads_as_node text ≡ false → name ≡ up_to is_mark text
    → false ≡ (length name == 0) → true ≡ list_all is_name_character (chars name)
    → length (name_node name).payload ≤ 0xfffb → node ≡ name_node name → piece_node (piece_at text) ≡ Some node
name_right text name node reads is some all short own =
    named_node text name reads is some all ∙ name_written name short ∙ ap Some (sym own)

pub name_long : (text name : List ℕ) → reads_as_node text ≡ false → name ≡ up_to is_mark text
    → false ≡ (length name == 0) → true ≡ list_all is_name_character (chars name)
    → 0xfffb < length (name_node name).payload → piece_node (piece_at text) ≡ None
name_long text name reads is some all long = named_node text name reads is some all ∙ name_too_long name long
