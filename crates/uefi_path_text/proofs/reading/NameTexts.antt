-- The text of a file's name is no other text.
use Rattle.std.proofs.Common.{◌≡◌, ℕ, ◌<◌, ◌≤◌, ◌==◌, ◌&&◌, List, [], ◌∷◌, ◌++◌, length, get_or, Bool, true, false, cond, not, refl, arith, ap, ◌∙◌, Option, Some, nat_eq, encode_utf8_all, eqb-true, eq-eqb, ⊎_elim}
use Rattle.std.specs.List.{list_all, find}
use Rattle.std.specs.Option.{option_eq}
use Rattle.std.specs.Str.{NonePass, NoCharPasses}
use Rattle.std.proofs.Math.Utf8.{encode, encodes}
use Rattle.std.proofs.lemmas.Bool.{and_parts, false_from_ne_true, both_ways, cases_lt, and_from, not_from_false, not-false, ne_eqb}
use Rattle.std.proofs.lemmas.Bool.Decides.{nat_tests}
use Rattle.std.proofs.lemmas.List.Recursion.{and_from_places}
use Rattle.std.proofs.lemmas.Str.{NoCharPasses-byte, encode_ascii, char_from_byte}
use Rattle.uefi_path_text.specs.text.FileName.{is_control, is_name_character, is_node_character, reads_as_node}
use Rattle.uefi_path_text.specs.parse.Nodes.{is_plain_byte}
use Rattle.uefi_path_text.specs.private.Pieces.{is_mark}

-- Neither a slash nor a comma is a byte of the text.
name_character_plain : (c : ℕ) → is_name_character c ≡ true → is_plain_byte c ≡ true
name_character_plain c is =
    let parts = and_parts (not (is_control c) && not (c == 0x2f)) (not (c == 0x2c)) is in
    let slash = and_parts (not (is_control c)) (not (c == 0x2f)) parts.0 in and_from _ _ slash.1 parts.1

none_marks : (cs : List ℕ) → list_all is_name_character cs ≡ true → NonePass is_mark cs
none_marks [] all = tt
none_marks (c ∷ cs) all =
    let parts = and_parts (is_name_character c) (list_all is_name_character cs) all in
    (ap not (name_character_plain c parts.0), none_marks cs parts.1)

high_plain : (b : ℕ) → 128 ≤ b → is_plain_byte b ≡ true
high_plain b high =
    and_from _ _ (not_from_false _ (ne_eqb b 0x2f (λ is. omega arith))) (not_from_false _ (ne_eqb b 0x2c (λ is. omega arith)))

plain_at : (bs : List ℕ) → NoCharPasses is_mark bs → (k : ℕ) → k < length bs → is_plain_byte (get_or bs k 0) ≡ true
plain_at bs has k within =
    ⊎_elim (λ small. not-false _ (NoCharPasses-byte is_mark bs k has within small)) (high_plain (get_or bs k 0))
    (cases_lt (get_or bs k 0) 128)

pub name_plain : (cs : List ℕ) → list_all is_name_character cs ≡ true → list_all is_plain_byte (encode_utf8_all cs) ≡ true
name_plain cs all =
    and_from_places (list_all is_plain_byte) is_plain_byte refl (λ x xs. refl) (encode_utf8_all cs) 0
    (plain_at (encode_utf8_all cs) (cs, refl, none_marks cs all))

-- It reads as a node only if the characters do.
node_ascii : (c : ℕ) → is_node_character c ≡ true → c < 128
node_ascii c is = grind (arith, nat_tests)

abbrev reads_found : Option ℕ → Bool
reads_found found = option_eq nat_eq found (Some 0x28)

first_reads : (node : Bool) (b c : ℕ) (bs rest : List ℕ) → b ∷ bs ≡ encode c ++ rest → is_node_character b ≡ node
    → is_node_character c ≡ false → (c == 0x28) ≡ false
    → reads_found (cond (not node) (Some b) (find (λ x. not (is_node_character x)) bs)) ≡ true → ⊥
first_reads true b c bs rest begins is other closed reads =
    let small = node_ascii b is in
    let same : c ≡ b = char_from_byte (b ∷ bs) rest c begins small (omega arith) in
    both_ways _ other (ap is_node_character same ∙ is)
first_reads false b c bs rest begins is other closed reads =
    let opening : b ≡ 0x28 = eqb-true b 0x28 reads in
    let same : c ≡ b = char_from_byte (b ∷ bs) rest c begins (omega arith) (omega arith) in
    both_ways _ closed (eq-eqb c 0x28 (same ∙ opening))

other_reads : (c : ℕ) (bs rest : List ℕ) → bs ≡ encode c ++ rest → is_node_character c ≡ false → (c == 0x28) ≡ false
    → reads_as_node bs ≡ false
other_reads c [] rest begins other closed = refl
other_reads c (b ∷ bs) rest begins other closed =
    false_from_ne_true _ (first_reads (is_node_character b) b c bs rest begins refl other closed)

text_step : (node : Bool) (c : ℕ) (cs : List ℕ) → is_node_character c ≡ node
    → (reads_as_node cs ≡ false → reads_as_node (encodes cs) ≡ false)
    → reads_found (cond (not node) (Some c) (find (λ x. not (is_node_character x)) cs)) ≡ false
    → reads_as_node (encode c ++ encodes cs) ≡ false
text_step true c cs is others reads =
    ap (λ l. reads_as_node (l ++ encodes cs)) (encode_ascii c (node_ascii c is))
    ∙ ap (λ b. reads_found (cond (not b) (Some c) (find (λ x. not (is_node_character x)) (encodes cs)))) is ∙ others reads
text_step false c cs is others reads = other_reads c (encode c ++ encodes cs) (encodes cs) refl is reads

pub name_text_reads : (cs : List ℕ) → reads_as_node cs ≡ false → reads_as_node (encodes cs) ≡ false
name_text_reads [] reads = refl
name_text_reads (c ∷ cs) reads = text_step (is_node_character c) c cs refl (name_text_reads cs) reads
