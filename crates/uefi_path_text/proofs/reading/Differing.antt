-- The texts of a form aren't those of an earlier form that differs from it.
use Rattle.std.proofs.Common.{◌≡◌, ◌==◌, ◌&&◌, ◌||◌, ◌/◌, ◌%◌, ℕ, suc, ◌<◌, ◌≤◌, List, [], ◌∷◌, Bool, true, false, not, cond, length, take, refl, arith, sym, ap, ◌∙◌, subst, Option, Some, None, nat_le, ne_eqb, eqb-true, inl, inr, slice_index}
use Rattle.std.specs.List.{list_all, list_any, find}
use Rattle.std.specs.Option.{option_map}
use Rattle.std.specs.Str.{bytes_eq}
use Rattle.std.proofs.lemmas.Bool.Decides.{nat_tests}
use Rattle.std.proofs.lemmas.Bool.{cases_Bool, and_parts, and_left, and_right, and_from, cond-false, not-true, agree_below_at, leb-false}
use Rattle.std.specs.Fmt.{digit_glyph}
use Rattle.uefi_path_text.specs.text.EisaId.{eisa_id}
use Rattle.uefi_path_text.specs.form.Pieces.{pieces_text, ipv6_pieces}
use Rattle.uefi_path_text.specs.declared.form.shape.Piece.{Piece}
use Rattle.uefi_path_text.specs.declared.form.shape.Piece.TheVariants.{Digits as digits_at, Mark as mark_of}
use Rattle.uefi_base.specs.LittleEndian.{AreBytes}
use Rattle.uefi_path_text.specs.parse.Parts.{cut_at}
use Rattle.uefi_path_text.specs.parse.Ipv4.{is_ipv4}
use Rattle.uefi_path_text.specs.parse.Values.{bytes_in, or_number, is_eisa, is_eisa_letter, size_bytes}
use Rattle.uefi_path_text.specs.form.Words.{words, are_numbers}
use Rattle.uefi_path_text.specs.form.NodeForm.{Parameter, Part}
use Rattle.uefi_path_text.specs.parse.Arguments.{onto, value_in, listed_values}
use Rattle.uefi_path_text.specs.write.Values.{low_number, number_text, number_base, value_text, can_show, word_for, found_text, is_found, writes_numbers}
use Rattle.uefi_path_text.specs.write.Fields.{value_found, values_from}
use Rattle.uefi_path_text.specs.write.Forms.{all_shown, shown_texts, is_left_out}
use Rattle.uefi_path_text.proofs.Table.{is_early, has_word, kinds_differ, some_differ}
use Rattle.uefi_path_text.specs.declared.form.size.Size.{Size}
use Rattle.uefi_path_text.specs.declared.form.words.Words.{Words}
use Rattle.uefi_path_text.specs.declared.form.argument.Base.{Base}
use Rattle.uefi_path_text.specs.declared.form.argument.Argument.{Argument}
use Rattle.uefi_path_text.specs.declared.form.argument.Argument.TheVariants.{Number, Word, Ipv4Server, Ipv6, EisaId, PnpId}
use Rattle.uefi_path_text.proofs.reading.CutTexts.{is_without, cut_whole}
use Rattle.uefi_path_text.proofs.reading.Kinds.{size_small}
use Rattle.uefi_path_text.proofs.reading.LowNumbers.{base_early, base_some}
use Rattle.uefi_path_text.proofs.reading.Values.{found_bytes, some_text, not_last}
use Rattle.uefi_path_text.proofs.reading.Vocabularies.{found_passes, own_words, own_word}
use Rattle.uefi_path_text.proofs.reading.WordNumbers.{no_word}

-- A text that is none of a kind, and that is written.
pub record IsNone (kind other : Argument) (v : List ℕ) : Type 0 where
  pub none : bytes_in kind (value_text other v) ≡ None
  pub some : 0 < length (value_text other v)
  pub not_left : is_left_out other v ≡ false

-- No word is the text.
none_found : {A : Type 0} (p : A → Bool) (xs : List A) → list_any p xs ≡ false → find p xs ≡ None
none_found p [] none = refl
none_found p (x ∷ xs) none =
    elim (cases_Bool (p x)) [
      | inl is ↦ let wrong : true ≡ false = sym (ap (λ b. b || list_any p xs) is) ∙ none in cc
      | inr not_is ↦ cond-false (p x) _ _ not_is ∙ none_found p xs (sym (ap (λ b. b || list_any p xs) not_is) ∙ none)
    ]

no_word_none : (vocabulary : Words) (size : Size) (text : List ℕ) → not (are_numbers vocabulary) ≡ true
    → find (λ word. bytes_eq word.0 text) (words vocabulary) ≡ None → bytes_in (Word vocabulary size) text ≡ None
unfolding bytes_in
no_word_none vocabulary size text numbers none =
    ap (λ found. or_number (are_numbers vocabulary) (size_bytes size) text (option_map (λ word. word.1) found)) none
    ∙ ap (λ is. or_number is (size_bytes size) text None) (not-true (are_numbers vocabulary) numbers)

only_right : (a b : Bool) → not a ≡ true → (a || b) ≡ true → b ≡ true
only_right true b not_a is = cc
only_right false b not_a is = is

found_some : (o : Option (List ℕ × ℕ)) → is_found o ≡ true → (word : List ℕ × ℕ) × (o ≡ Some word)
found_some None is = cc
found_some (Some word) is = (word, refl)

not_empty : (text : List ℕ) → not (length text == 0) ≡ true → 0 < length text
not_empty [] is = cc
not_empty (c ∷ text) is = omega arith

words_differ : (a b : Words) (size other : Size) (v : List ℕ) → kinds_differ (Word a size) (Word b other) ≡ true
    → can_show (Word b other) v ≡ true → IsNone (Word a size) (Word b other) v
words_differ a b size other v differ shown =
    let first = and_parts _ _ differ in
    let numbers = and_parts _ _ first.0 in
    let word = found_some (word_for b (low_number v)) (only_right (writes_numbers b) _ numbers.1 (and_parts _ _ shown).1) in
    let own = own_word b word.0 (found_passes _ _ (words b) word.0 word.1 (own_words b)).1 in
    let absent = (found_passes _ (λ w. not (has_word (words a) w)) (words b) word.0 word.1 first.1).1 in
    let text : found_text (word_for b (low_number v)) (number_text (number_base b) v) ≡ word.0.0 =
    ap (λ o. found_text o (number_text (number_base b) v)) word.1 in
    record {
      none = ap (bytes_in (Word a size)) text
          ∙ no_word_none a size word.0.0 numbers.0 (none_found _ (words a) (not-true (has_word (words a) word.0) absent));
      some = subst (λ t. 0 < length t) (sym text) (not_empty word.0.0 own.some);
      not_left = refl;
    }

number_after_words : (a : Words) (size other : Size) (base : Base) (v : List ℕ) → AreBytes v
    → kinds_differ (Word a size) (Number other base) ≡ true → can_show (Number other base) v ≡ true
    → IsNone (Word a size) (Number other base) v
number_after_words a size other base v each differ shown =
    let parts = and_parts _ _ differ in
    let short : length v ≤ 8 = omega (arith, eqb-true (length v) (size_bytes other) shown, size_small other) in
    record {
      none = no_word_none a size (number_text base v) parts.0 (no_word (words a) (number_text base v) parts.1 (base_early base v each short));
      some = base_some base v each short;
      not_left = refl;
    }

le_false : (c : ℕ) → c < 58 → nat_le 0x40 c ≡ false
le_false c early = grind (arith, nat_tests)

early_letter : (c : ℕ) → c < 58 → is_eisa_letter c ≡ false
early_letter c early = and_left _ _ (le_false c early)

no_eisa : (text : List ℕ) → 0 < length text → slice_index text 0 < 58 → is_eisa text ≡ false
no_eisa [] some early = absurd (omega (arith, some))
no_eisa (c ∷ text) some early =
    let letters : list_all is_eisa_letter (take 3 (c ∷ text)) ≡ false = and_left _ _ (early_letter c early) in
    and_left _ _ (and_right _ _ letters)

number_after_eisa : (other : Size) (base : Base) (v : List ℕ) → AreBytes v → can_show (Number other base) v ≡ true
    → IsNone EisaId (Number other base) v
unfolding bytes_in
number_after_eisa other base v each shown =
    let short : length v ≤ 8 = omega (arith, eqb-true (length v) (size_bytes other) shown, size_small other) in
    let text : List ℕ = number_text base v in
    let some = base_some base v each short in
    record {
      none = cond-false (is_eisa text) _ _ (no_eisa text some (base_early base v each short));
      some = some;
      not_left = refl;
    }

word_not_eisa : (word text : List ℕ) → not (nat_le 0x40 (slice_index word 0)) ≡ true → 0x40 ≤ slice_index text 0
    → bytes_eq word text ≡ false
word_not_eisa [] [] early late = absurd (omega (arith, late))
word_not_eisa [] (d ∷ text) early late = refl
word_not_eisa (c ∷ word) [] early late = refl
word_not_eisa (c ∷ word) (d ∷ text) early late =
    let low : c < 0x40 = leb-false 0x40 c (not-true (nat_le 0x40 c) early) in
    and_left _ _ (ne_eqb c d (λ is. omega (arith, is, low, late)))

no_early : (ws : List (List ℕ × ℕ)) (text : List ℕ) → list_all is_early ws ≡ true → 0x40 ≤ slice_index text 0
    → find (λ word. bytes_eq word.0 text) ws ≡ None
no_early [] text early late = refl
no_early (word ∷ ws) text early late =
    let parts = and_parts (is_early word) (list_all is_early ws) early in
    cond-false _ _ _ (word_not_eisa word.0 text parts.0 late) ∙ no_early ws text parts.1 late

eisa_after_words : (a : Words) (size : Size) (v : List ℕ) → kinds_differ (Word a size) EisaId ≡ true
    → IsNone (Word a size) EisaId v
eisa_after_words a size v differ =
    let parts = and_parts _ _ differ in
    record {
      none = no_word_none a size (eisa_id (low_number v)) parts.0 (no_early (words a) (eisa_id (low_number v)) parts.1 (omega arith));
      some = omega arith;
      not_left = refl;
    }

pnp_is : (text : List ℕ) → bytes_in PnpId text ≡ bytes_in EisaId text
unfolding bytes_in
pnp_is text = refl

number_after_pnp : (other : Size) (base : Base) (v : List ℕ) → AreBytes v → can_show (Number other base) v ≡ true
    → IsNone PnpId (Number other base) v
number_after_pnp other base v each shown =
    let is = number_after_eisa other base v each shown in
    record { none = pnp_is (number_text base v) ∙ is.none; some = is.some; not_left = refl }

-- The text of an IPv6 address has no dot.
glyph_dots : (d : ℕ) → d < 16 → not (digit_glyph true d == 0x2e) ≡ true
glyph_dots d small = agree_below_at (λ e. not (digit_glyph true e == 0x2e)) (λ e. true) 16 d refl small

abbrev no_dot : Piece → Bool
no_dot (digits_at k) = true
no_dot (mark_of c) = not (c == 0x2e)

pieces_dots : (v : List ℕ) (ps : List Piece) → AreBytes v → list_all no_dot ps ≡ true → is_without 0x2e (pieces_text v ps) ≡ true
pieces_dots v [] each none = refl
pieces_dots v (digits_at k ∷ ps) each none =
    let small : slice_index v k < 256 = each k in
    and_from _ _ (glyph_dots (slice_index v k / 16) (omega arith))
    (and_from _ _ (glyph_dots (slice_index v k % 16) (omega arith)) (pieces_dots v ps each none))
pieces_dots v (mark_of c ∷ ps) each none = let parts = and_parts _ _ none in and_from _ _ parts.0 (pieces_dots v ps each parts.1)

no_server : (text : List ℕ) → is_without 0x2e text ≡ true → bytes_in Ipv4Server text ≡ None
unfolding bytes_in
no_server text none =
    let one : cut_at 0x2e text ≡ text ∷ [] = cut_whole 0x2e text none in
    cond-false (is_ipv4 text) _ _ (and_left _ _ (ap (λ l. length l == 4) one))

ipv6_after_server : (v : List ℕ) → AreBytes v → IsNone Ipv4Server Ipv6 v
ipv6_after_server v each = record {
  none = no_server (pieces_text v ipv6_pieces) (pieces_dots v ipv6_pieces each refl);
  some = omega arith;
  not_left = refl;
}

pub kinds_none : (a b : Argument) (v : List ℕ) → AreBytes v → kinds_differ a b ≡ true → can_show b v ≡ true → IsNone a b v
kinds_none (Word a size) (Word b other) v each differ shown = words_differ a b size other v differ shown
kinds_none (Word a size) (Number other base) v each differ shown = number_after_words a size other base v each differ shown
kinds_none (Word a size) EisaId v each differ shown = eisa_after_words a size v differ
kinds_none PnpId (Number other base) v each differ shown = number_after_pnp other base v each shown
kinds_none Ipv4Server Ipv6 v each differ shown = ipv6_after_server v each
kinds_none EisaId (Number other base) v each differ shown = number_after_eisa other base v each shown
kinds_none _ _ v each differ shown = cc

-- One argument that differs is enough.
onto_none : {A : Type 0} (o : Option A) → onto o None ≡ None
onto_none None = refl
onto_none (Some value) = refl

no_more_differ : (ps : List Parameter) → some_differ ps [] ≡ true → ⊥
no_more_differ [] is = cc
no_more_differ (p ∷ ps) is = cc

head_none : (p q : Parameter) (ps qs : List Parameter) (v : List ℕ) (texts : List (List ℕ)) → IsNone p.argument q.argument v
    → listed_values (p ∷ ps)
    (cond (length qs == 0 && is_left_out q.argument v) [] (value_text q.argument v ∷ texts)) ≡ None
head_none p q ps qs v texts is =
    let text : List ℕ = value_text q.argument v in
    ap (listed_values (p ∷ ps)) (cond-false (length qs == 0 && is_left_out q.argument v) _ _ (and_right _ _ is.not_left))
    ∙ ap (λ o. onto o (listed_values ps texts)) (ap (bytes_in p.argument) (some_text p.default text is.some) ∙ is.none)

pub some_none : (qs_all : List Parameter) (parts : List Part) (d : List ℕ) → AreBytes d → (ps qs : List Parameter) (k : ℕ)
    → some_differ ps qs ≡ true → all_shown qs (values_from qs_all parts qs k d) ≡ true
    → listed_values ps (shown_texts qs (values_from qs_all parts qs k d)) ≡ None
some_none qs_all parts d each [] qs k differ shown = cc
some_none qs_all parts d each (p ∷ ps) [] k differ shown = cc
some_none qs_all parts d each (p ∷ ps) (q ∷ []) k differ shown =
    let v = value_found qs_all parts k d in
    elim (cases_Bool (kinds_differ p.argument q.argument)) [
      | inl here ↦ head_none p q ps [] v _
          (kinds_none p.argument q.argument v (found_bytes qs_all parts k d each) here (and_parts _ _ shown).0)
      | inr other ↦ absurd (no_more_differ ps (sym (ap (λ b. b || some_differ ps []) other) ∙ differ))
    ]
some_none qs_all parts d each (p ∷ ps) (q ∷ r ∷ qs) k differ shown =
    let v = value_found qs_all parts k d in
    let more = shown_texts (r ∷ qs) (values_from qs_all parts (r ∷ qs) (suc k) d) in
    elim (cases_Bool (kinds_differ p.argument q.argument)) [
      | inl here ↦ head_none p q ps (r ∷ qs) v more
          (kinds_none p.argument q.argument v (found_bytes qs_all parts k d each) here (and_parts _ _ shown).0)
      | inr other ↦
          ap (listed_values (p ∷ ps)) (cond-false _ _ _ (not_last r qs (is_left_out q.argument v)))
          ∙ ap (onto (value_in p (value_text q.argument v)))
          (some_none qs_all parts d each ps (r ∷ qs) (suc k) (sym (ap (λ b. b || some_differ ps (r ∷ qs)) other) ∙ differ) (and_parts _ _ shown).1)
          ∙ onto_none (value_in p (value_text q.argument v))
    ]
