-- A name with arguments is read as the node of one of the forms that have the name.
use Rattle.std.proofs.Common.{◌≡◌, ℕ, ◌+◌, ◌≤◌, ◌<◌, ◌==◌, ◌&&◌, List, [], ◌∷◌, ◌++◌, length, take, drop, Bool, true, false, not, cond, refl, arith, sym, ap, ◌∙◌, append_assoc, subst, Some, None, eq-eqb, le-leb, ne_eqb}
use Rattle.std.specs.Prelude.{nat_eq}
use Rattle.std.specs.List.{list_all, find, position_or_len, before_first, after_first}
use Rattle.std.specs.Option.{option_eq}
use Rattle.std.proofs.lemmas.Bool.{and_parts, not-true, not_from_false, cond-true, cond-false}
use Rattle.std.proofs.lemmas.List.{take_at, drop_at, length_push}
use Rattle.uefi_path.specs.Node.{Node}
use Rattle.uefi_path_text.specs.text.Arguments.{call}
use Rattle.uefi_path_text.specs.text.FileName.{is_node_character, reads_as_node}
use Rattle.uefi_path_text.specs.parse.Parts.{given}
use Rattle.uefi_path_text.specs.form.NodeForm.{NodeForm}
use Rattle.uefi_path_text.specs.parse.Arguments.{texts_of, values_in, form_node}
use Rattle.uefi_path_text.specs.parse.Nodes.{is_written, node_of_values, node_in, or_else, first_node, forms_named, call_node, after_name, arguments_of, is_closed, piece_node}
use Rattle.uefi_path_text.proofs.reading.CutTexts.{is_without, are_arguments, joined, joined_cut, joined_closing, call_joined, all_weaker}

-- The first character of a kind is where a front without one ends.
abbrev is_front : (ℕ → Bool) → List ℕ → Bool
is_front p front = list_all (λ c. not (p c)) front

place_after : (p : ℕ → Bool) (front : List ℕ) (mark : ℕ) (rest : List ℕ) → is_front p front ≡ true → p mark ≡ true
    → position_or_len p (front ++ mark ∷ rest) ≡ length front
place_after p [] mark rest none is = ap (λ b. cond (not b) (1 + position_or_len p rest) 0) is
place_after p (c ∷ front) mark rest none is =
    let parts = and_parts (not (p c)) (is_front p front) none in
    let more : 1 + length front ≡ length (c ∷ front) = omega arith in
    (λ i. cond (parts.0 i) (1 + place_after p front mark rest parts.1 is i) 0) ∙ more

found_after : (p : ℕ → Bool) (front : List ℕ) (mark : ℕ) (rest : List ℕ) → is_front p front ≡ true → p mark ≡ true
    → find p (front ++ mark ∷ rest) ≡ Some mark
found_after p [] mark rest none is = cond-true (p mark) _ _ is
found_after p (c ∷ front) mark rest none is =
    let parts = and_parts (not (p c)) (is_front p front) none in
    cond-false (p c) _ _ (not-true (p c) parts.0) ∙ found_after p front mark rest parts.1 is

before_mark : (p : ℕ → Bool) (front : List ℕ) (mark : ℕ) (rest : List ℕ) → is_front p front ≡ true → p mark ≡ true
    → before_first p (front ++ mark ∷ rest) ≡ front
before_mark p front mark rest none is =
    ap (λ n. take n (front ++ mark ∷ rest)) (place_after p front mark rest none is) ∙ take_at front (mark ∷ rest) (length front) refl

after_mark : (p : ℕ → Bool) (front : List ℕ) (mark : ℕ) (rest : List ℕ) → is_front p front ≡ true → p mark ≡ true
    → after_first p (front ++ mark ∷ rest) ≡ rest
after_mark p front mark rest none is =
    ap (λ n. drop (n + 1) (front ++ mark ∷ rest)) (place_after p front mark rest none is)
    ∙ ap (drop (length front + 1)) (sym (append_assoc front (mark ∷ []) rest))
    ∙ drop_at (front ++ mark ∷ []) rest (length front + 1) (length_push front mark)

-- A name of nodes: letters, digits and hyphens.
abbrev pub is_node_name : List ℕ → Bool
is_node_name name = list_all is_node_character name

no_parenthesis : (c : ℕ) → is_node_character c ≡ true → not (c == 0x28) ≡ true
no_parenthesis c is = not_from_false (c == 0x28) (ne_eqb c 0x28 (λ same.
    let wrong : false ≡ true = subst (λ x. is_node_character x ≡ true) same is in cc))

no_other : (c : ℕ) → is_node_character c ≡ true → not (not (is_node_character c)) ≡ true
no_other c is = ap (λ b. not (not b)) is

-- A name before a parenthesis reads as a node.
pub named_reads : (name rest : List ℕ) → is_node_name name ≡ true → reads_as_node (name ++ 0x28 ∷ rest) ≡ true
named_reads name rest named =
    ap (λ found. option_eq nat_eq found (Some 0x28)) (found_after (λ c. not (is_node_character c)) name 0x28 rest
    (all_weaker is_node_character (λ c. not (not (is_node_character c))) no_other name named) refl)

pub named_after : (name rest : List ℕ) → is_node_name name ≡ true → after_name (name ++ 0x28 ∷ rest) ≡ rest
named_after name rest named =
    after_mark (λ c. c == 0x28) name 0x28 rest
    (all_weaker is_node_character (λ c. not (c == 0x28)) no_parenthesis name named) refl

-- A piece of a name and arguments in parentheses is a call of the name with the arguments.
pub piece_call : (name arguments : List ℕ) → is_node_name name ≡ true → is_without 0x29 arguments ≡ true
    → piece_node (name ++ 0x28 ∷ (arguments ++ 0x29 ∷ [])) ≡ call_node name arguments
unfolding piece_node
piece_call name arguments named closed =
    let rest : List ℕ = arguments ++ 0x29 ∷ [] in
    let piece : List ℕ = name ++ 0x28 ∷ rest in
    let front : is_front (λ c. c == 0x28) name ≡ true =
    all_weaker is_node_character (λ c. not (c == 0x28)) no_parenthesis name named in
    let others : is_front (λ c. not (is_node_character c)) name ≡ true =
    all_weaker is_node_character (λ c. not (not (is_node_character c))) no_other name named in
    let reads : reads_as_node piece ≡ true =
    ap (λ found. option_eq nat_eq found (Some 0x28)) (found_after (λ c. not (is_node_character c)) name 0x28 rest others refl) in
    let after : after_name piece ≡ rest = after_mark (λ c. c == 0x28) name 0x28 rest front refl in
    let own : arguments_of piece ≡ arguments =
    ap (before_first (λ c. c == 0x29)) after ∙ before_mark (λ c. c == 0x29) arguments 0x29 [] closed refl in
    let ends : is_closed piece ≡ true =
    eq-eqb (length (after_name piece)) (length (arguments_of piece) + 1)
    (ap length after ∙ length_push arguments 0x29 ∙ ap (λ l. length l + 1) (sym own)) in
    cond-true (reads_as_node piece) _ _ reads ∙ cond-true (is_closed piece) _ _ ends
    ∙ (λ i. call_node (before_mark (λ c. c == 0x28) name 0x28 rest front refl i) (own i))

-- Arguments with commas between them are cut into them again, if they aren't empty.
some_texts : (text : List ℕ) (texts : List (List ℕ)) → 0 < length text → cond (length text == 0) [] texts ≡ texts
some_texts text texts some = cond-false (length text == 0) _ _ (ne_eqb (length text) 0 (λ none. omega (arith, none, some)))

pub texts_again : (arguments : List (List ℕ)) → 0 < length (joined arguments) → are_arguments arguments ≡ true
    → texts_of (joined arguments) ≡ arguments
texts_again [] some are = absurd (omega arith)
texts_again (a ∷ more) some are = some_texts (joined (a ∷ more)) _ some ∙ joined_cut (a ∷ more) (omega arith) are

-- No arguments, and an empty one alone, are no texts.
pub no_texts : texts_of (joined []) ≡ []
no_texts = refl

pub empty_texts : texts_of (joined ([] ∷ [])) ≡ []
empty_texts = refl

-- Arguments of which the first isn't empty, or of which there are two, aren't empty.
pub joined_some : (a : List ℕ) (more : List (List ℕ)) → 0 < length a → 0 < length (joined (a ∷ more))
joined_some a [] some = some
joined_some (c ∷ a) (b ∷ more) some = omega arith
joined_some [] (b ∷ more) some = absurd (omega (arith, some))

pub joined_two : (a b : List ℕ) (more : List (List ℕ)) → 0 < length (joined (a ∷ b ∷ more))
joined_two [] b more = omega arith
joined_two (c ∷ a) b more = omega arith

-- A call is read by the forms that have its name.
pub call_read : (name : List ℕ) (arguments : List (List ℕ)) → is_node_name name ≡ true → are_arguments arguments ≡ true
    → piece_node (call name arguments) ≡ call_node name (joined arguments)
call_read name arguments named are =
    ap piece_node (call_joined name arguments) ∙ piece_call name (joined arguments) named (joined_closing arguments are)

pub call_by_forms : (name : List ℕ) (arguments : List (List ℕ)) (forms : List NodeForm) → is_node_name name ≡ true
    → are_arguments arguments ≡ true → forms_named name ≡ forms
    → piece_node (call name arguments) ≡ first_node forms (texts_of (joined arguments))
unfolding call_node
call_by_forms name arguments forms named are all =
    call_read name arguments named are ∙ ap (λ l. first_node l (texts_of (joined arguments))) all

pub call_in_forms : (name : List ℕ) (arguments : List (List ℕ)) → is_node_name name ≡ true
    → are_arguments arguments ≡ true
    → piece_node (call name arguments) ≡ first_node (forms_named name) (texts_of (joined arguments))
call_in_forms name arguments named are = call_by_forms name arguments (forms_named name) named are refl

-- The same of texts that aren't empty.
pub call_by_texts : (name : List ℕ) (arguments : List (List ℕ)) (forms : List NodeForm) → is_node_name name ≡ true
    → are_arguments arguments ≡ true → 0 < length (joined arguments) → forms_named name ≡ forms
    → piece_node (call name arguments) ≡ first_node forms arguments
call_by_texts name arguments forms named are some all =
    call_by_forms name arguments forms named are all ∙ ap (first_node forms) (texts_again arguments some are)

-- The node of this type with these data; it can be written, if it isn't too long and no END node.
abbrev pub node_with : ℕ → ℕ → List ℕ → Node
node_with device_type sub_type d = record { device_type = device_type; sub_type = sub_type; payload = d }

pub written : (device_type sub_type : ℕ) (d : List ℕ) → (device_type == 0x7f) ≡ false → length d ≤ 0xfffb
    → is_written (node_with device_type sub_type d) ≡ true
written device_type sub_type d other short =
    λ i. le-leb (length d) 0xfffb short i && not (other i && sub_type == 0x01 && length d == 0)
    && not (other i && sub_type == 0xff && length d == 0)

-- A form makes the node of its values.
pub form_reads : (form : NodeForm) (texts values : List (List ℕ)) (device_type sub_type : ℕ) (d : List ℕ)
    → (device_type == 0x7f) ≡ false → length d ≤ 0xfffb → values_in form.arguments texts ≡ Some values
    → form_node form values ≡ node_with device_type sub_type d
    → node_in form texts ≡ Some (node_with device_type sub_type d)
form_reads form texts values device_type sub_type d other short are is =
    ap (node_of_values form) are ∙ ap (λ node. given (is_written node) node) is
    ∙ cond-true (is_written (node_with device_type sub_type d)) _ _ (written device_type sub_type d other short)

-- The first form that the texts fit makes the node.
pub first_reads : (form : NodeForm) (forms : List NodeForm) (texts : List (List ℕ)) (node : Node)
    → node_in form texts ≡ Some node → first_node (form ∷ forms) texts ≡ Some node
first_reads form forms texts node reads = ap (λ found. or_else found (first_node forms texts)) reads

pub later_reads : (form : NodeForm) (forms : List NodeForm) (texts : List (List ℕ)) → values_in form.arguments texts ≡ None
    → first_node (form ∷ forms) texts ≡ first_node forms texts
later_reads form forms texts none = ap (λ values. or_else (node_of_values form values) (first_node forms texts)) none
