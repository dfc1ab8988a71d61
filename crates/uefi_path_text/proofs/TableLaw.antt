-- What a table of forms writes for a node is read by it as the node.
use Rattle.std.proofs.Common.{zero, suc, take, drop, take-append-drop, ◌≡◌, ◌==◌, ◌||◌, ℕ, ◌≤◌, List, [], ◌∷◌, ◌++◌, Bool, true, false, not, cond, length, refl, arith, sym, ap, ◌∙◌, Option, Some, None, codes, eqb-true, ne_eqb, inl, inr, ◌⊎◌}
use Rattle.std.specs.Prelude.{filter}
use Rattle.uefi_path_text.specs.text.Style.{style}
use Rattle.uefi_path_text.specs.declared.text.style.Style.{Style}
use Rattle.uefi_path_text.specs.declared.forms.Section.{Section}
use Rattle.uefi_path_text.specs.declared.form.argument.Argument.{Argument}
use Rattle.std.specs.List.{list_all}
use Rattle.std.specs.Str.{bytes_eq}
use Rattle.std.proofs.lemmas.Bool.{cases_Bool, and_parts, cond-true, cond-false, not-true}
use Rattle.std.proofs.lemmas.Option.{same_Some, none-some}
use Rattle.std.proofs.lemmas.Slice.Eq.{bytes_eq-Decides}
use Rattle.uefi_base.specs.LittleEndian.{AreBytes}
use Rattle.uefi_path.specs.Node.{Node}
use Rattle.uefi_path_text.specs.text.Arguments.{call, closed}
use Rattle.uefi_path_text.specs.form.NodeForm.{NodeForm, Source, known, stated, Arguments, listed, repeated}
use Rattle.uefi_path_text.specs.parse.Arguments.{repeated_values, onto, texts_of, values_in, number_from, parts_data, arguments_data}
use Rattle.uefi_path_text.specs.parse.Nodes.{first_node, node_in, piece_node}
use Rattle.uefi_path_text.specs.AllForms.{forms, forms_in, forms_of, sections}
use Rattle.uefi_path_text.specs.write.Fields.{values_found, value_size}
use Rattle.uefi_path_text.specs.write.Forms.{marked, is_source, has_data, has_node, argument_texts, repeated_count, are_values, texts_from, is_form_of, text_in_form, text_in_forms, or_text, text_in_sections, read_form_text, form_text}
use Rattle.uefi_path_text.proofs.Table.{kinds_differ, is_sound, are_sound_arguments, is_no_end, arguments_differ, are_apart, all_apart, is_table}
use Rattle.uefi_path_text.proofs.Tables.{reads_sections, shows_none}
use Rattle.uefi_path_text.proofs.reading.CutTexts.{are_arguments, joined}
use Rattle.uefi_path_text.proofs.reading.Calls.{node_with, form_reads, first_reads, later_reads, call_in_forms}
use Rattle.uefi_path_text.proofs.reading.Values.{dropped, taken, again_listed, again_found, list_reads, cut_values, repeated_reads, again_repeated}
use Rattle.uefi_path_text.proofs.reading.Differing.{kinds_none, some_none}

-- The texts of a form as they are read again.
abbrev again : Arguments → List ℕ → List (List ℕ)
again arguments d = texts_of (joined (argument_texts arguments d))

-- The arguments of a form that has the data are read as values whose parts are the data.
pub record DataRead (arguments : Arguments) (d : List ℕ) : Type 0 where
  pub are : are_arguments (argument_texts arguments d) ≡ true
  pub values : List (List ℕ)
  pub read : values_in arguments (again arguments d) ≡ Some values
  pub whole : arguments_data arguments values ≡ d

some_texts : (kind : Argument) (count : ℕ) (rest : List ℕ) → not (count == 0) ≡ true
    → cond (length (texts_from kind count rest) == 0) None (repeated_values kind (texts_from kind count rest))
    ≡ repeated_values kind (texts_from kind count rest)
some_texts kind zero rest some = cc
some_texts kind (suc count) rest some =
    cond-false _ _ _ (ne_eqb (length (texts_from kind (suc count) rest)) 0 (λ none. omega (arith, none)))

data_read : (arguments : Arguments) (d : List ℕ) → AreBytes d → are_sound_arguments arguments ≡ true
    → has_data arguments d ≡ true → DataRead arguments d
data_read (listed ps parts) d each sound has =
    let both = and_parts _ _ has in
    record {
      are = (list_reads ps parts d each ps 0 sound both.1).arguments;
      values = values_found ps parts d;
      read = again_found ps parts d each sound both.1;
      whole = (bytes_eq-Decides (parts_data (values_found ps parts d) parts) d).0 both.0;
    }
data_read (repeated prefix kind) d each sound has =
    let both = and_parts _ _ has in
    let rest : List ℕ = drop (length prefix) d in
    let count : ℕ = repeated_count kind rest in
    let some = and_parts _ _ both.1 in
    let bytes : AreBytes rest = dropped (length prefix) d each in
    let reads = repeated_reads kind count rest bytes some.1 in
    let again_is : texts_of (joined (texts_from kind count rest)) ≡ texts_from kind count rest =
    again_repeated kind count rest bytes sound some.0 some.1 in
    record {
      are = reads.arguments;
      values = cut_values kind count rest;
      read = ap (values_in (repeated prefix kind)) again_is ∙ some_texts kind count rest some.0 ∙ reads.read;
      whole = ap (λ l. prefix ++ l) reads.whole ∙ ap (λ l. l ++ rest) (sym ((bytes_eq-Decides _ prefix).0 both.0))
          ∙ take-append-drop (length prefix) d;
    }

repeated_none : (kind other : Argument) (count : ℕ) (rest : List ℕ) → AreBytes rest → kinds_differ kind other ≡ true
    → not (count == 0) ≡ true → are_values other count rest ≡ true
    → cond (length (texts_from other count rest) == 0) None (repeated_values kind (texts_from other count rest)) ≡ None
repeated_none kind other zero rest each differ some are = cc
repeated_none kind other (suc count) rest each differ some are =
    let size = value_size other rest in
    let is = kinds_none kind other (take size rest) (taken size rest each) differ (and_parts _ _ are).0 in
    cond-false _ _ _ (ne_eqb (length (texts_from other (suc count) rest)) 0 (λ none. omega (arith, none)))
    ∙ ap (λ o. onto o (repeated_values kind (texts_from other count (drop size rest)))) is.none

-- An earlier form that differs doesn't read them.
not_read : (earlier later : Arguments) (d : List ℕ) → AreBytes d → are_sound_arguments later ≡ true
    → arguments_differ earlier later ≡ true → has_data later d ≡ true → values_in earlier (again later d) ≡ None
not_read (listed [] parts) (listed qs others) d each sound differ has = cc
not_read (listed (p ∷ ps) parts) (listed qs others) d each sound differ has =
    let shown = (and_parts _ _ has).1 in
    again_listed p ps _ (list_reads qs others d each qs 0 sound shown).arguments
    ∙ some_none qs others d each (p ∷ ps) qs 0 differ shown
not_read (listed ps parts) (repeated prefix kind) d each sound differ has = cc
not_read (repeated prefix kind) (listed qs others) d each sound differ has = cc
not_read (repeated prefix kind) (repeated other_prefix other) d each sound differ has =
    let both = and_parts _ _ has in
    let rest : List ℕ = drop (length other_prefix) d in
    let bytes : AreBytes rest = dropped (length other_prefix) d each in
    let some = and_parts _ _ both.1 in
    ap (values_in (repeated prefix kind)) (again_repeated other (repeated_count other rest) rest bytes sound some.0 some.1)
    ∙ repeated_none kind other (repeated_count other rest) rest bytes differ some.0 some.1

-- A form that has a node makes it of the texts.
source_is : (source : Source) (arguments : Arguments) (values : List (List ℕ)) (n : ℕ) → is_source source n ≡ true
    → number_from arguments values source ≡ n
source_is (known number) arguments values n is = eqb-true number n is
source_is (stated index) arguments values n is = cc

no_end : (source : Source) (n : ℕ) → is_source source n ≡ true → is_no_end source ≡ true → (n == 0x7f) ≡ false
no_end (known number) n is other = ap (λ m. m == 0x7f) (sym (eqb-true number n is)) ∙ not-true (number == 0x7f) other
no_end (stated index) n is other = cc

pub form_again : (form : NodeForm) (node : Node) → AreBytes node.payload → length node.payload ≤ 0xfffb
    → is_sound form ≡ true → has_node form node ≡ true
    → node_in form (again form.arguments node.payload) ≡ Some node
form_again form node each short sound has =
    let fits = and_parts _ _ sound in
    let name = and_parts _ _ fits.0 in
    let parts = and_parts _ _ has in
    let types = and_parts _ _ parts.0 in
    let reads = data_read form.arguments node.payload each fits.1 parts.1 in
    form_reads form (again form.arguments node.payload) reads.values node.device_type node.sub_type node.payload
    (no_end form.device_type node.device_type types.0 name.1) short reads.read
    (λ i. node_with (source_is form.device_type form.arguments reads.values node.device_type types.0 i)
    (source_is form.sub_type form.arguments reads.values node.sub_type types.1 i) (reads.whole i))

-- The text of a form is a call of its name.
marked_more : (mark text : List ℕ) (texts : List (List ℕ)) → marked mark (text ∷ texts) ≡ mark ++ closed (text ∷ texts)
marked_more mark text [] = refl
marked_more mark text (next ∷ texts) = ap (λ l. mark ++ (text ++ l)) (marked_more (codes ",") next texts)

marked_closed : (texts : List (List ℕ)) → marked [] texts ≡ closed texts
marked_closed [] = refl
marked_closed (text ∷ texts) = marked_more [] text texts

-- The form that wrote a text, of a table.
pub record IsWritten (table : List NodeForm) (shortcuts : Bool) (node : Node) (text : List ℕ) : Type 0 where
  pub form : NodeForm
  pub within : (p : NodeForm → Bool) → list_all p table ≡ true → p form ≡ true
  pub has : has_node form node ≡ true
  pub is : text_in_form form (style false shortcuts) node.payload ≡ text
  pub first : first_node (filter (λ f. bytes_eq f.name form.name) table) (again form.arguments node.payload)
      ≡ Some node

either_text : {A : Type 0} (b : Bool) (x y : A) (rest : Option A) → cond b (Some x) rest ≡ Some y
    → ((b ≡ true) × (x ≡ y)) ⊎ ((b ≡ false) × (rest ≡ Some y))
either_text true x y rest is = inl (refl, same_Some x y is)
either_text false x y rest is = inr (refl, is)

same_name : (name : List ℕ) → bytes_eq name name ≡ true
same_name name = (bytes_eq-Decides name name).1 refl

or_left : (a b : Bool) → (not a || b) ≡ true → a ≡ true → b ≡ true
or_left true b is a = is
or_left false b is a = cc

earlier_form : (form later : NodeForm) (table : List NodeForm) (node : Node) → AreBytes node.payload
    → is_sound later ≡ true → are_apart form later ≡ true → has_node later node ≡ true
    → first_node (filter (λ f. bytes_eq f.name later.name) table) (again later.arguments node.payload) ≡ Some node
    → first_node (filter (λ f. bytes_eq f.name later.name) (form ∷ table)) (again later.arguments node.payload) ≡ Some node
earlier_form form later table node each sound apart has first =
    let named = filter (λ f. bytes_eq f.name later.name) table in
    elim (cases_Bool (bytes_eq form.name later.name)) [
      | inl same ↦
          ap (λ fs. first_node fs (again later.arguments node.payload)) (cond-true (bytes_eq form.name later.name) _ _ same)
          ∙ later_reads form named (again later.arguments node.payload)
          (not_read form.arguments later.arguments node.payload each (and_parts _ _ sound).1
          (or_left _ _ apart same) (and_parts _ _ has).1)
          ∙ first
      | inr other ↦ ap (λ fs. first_node fs (again later.arguments node.payload)) (cond-false (bytes_eq form.name later.name) _ _ other) ∙ first
    ]

pub written : (table : List NodeForm) (shortcuts : Bool) (node : Node) (text : List ℕ) → AreBytes node.payload
    → length node.payload ≤ 0xfffb → list_all is_sound table ≡ true → all_apart table ≡ true
    → text_in_forms table (style false shortcuts) node ≡ Some text
    → IsWritten table shortcuts node text
written [] shortcuts node text each short sound apart is = absurd (none-some text is)
written (form ∷ table) shortcuts node text each short sound apart is =
    let sounds = and_parts _ _ sound in
    let aparts = and_parts _ _ apart in
    elim (either_text (is_form_of form (style false shortcuts) node) (text_in_form form (style false shortcuts) node.payload) text _ is) [
      | inl here ↦
          let has = (and_parts _ _ here.0).1 in
          record {
            form = form;
            within = λ p all. (and_parts (p form) (list_all p table) all).0;
            has = has;
            is = here.1;
            first = ap (λ fs. first_node fs (again form.arguments node.payload)) (cond-true _ _ _ (same_name form.name))
                ∙ first_reads form _ (again form.arguments node.payload) _
                (form_again form node each short sounds.0 has);
          }
      | inr later ↦
          let rest = written table shortcuts node text each short sounds.1 aparts.1 later.1 in
          record {
            form = rest.form;
            within = λ p all. rest.within p (and_parts (p form) (list_all p table) all).1;
            has = rest.has;
            is = rest.is;
            first = earlier_form form rest.form table node each
                (rest.within is_sound sounds.1)
                (rest.within (are_apart form) aparts.0) rest.has rest.first;
          }
    ]

-- All sections together are one table.
or_text_again : (a b c : Option (List ℕ)) → or_text (or_text a b) c ≡ or_text a (or_text b c)
or_text_again None b c = refl
or_text_again (Some a) b c = refl

either_or : (b : Bool) (x : List ℕ) (rest other whole : Option (List ℕ)) → whole ≡ or_text rest other
    → cond b (Some x) whole ≡ or_text (cond b (Some x) rest) other
either_or true x rest other whole is = refl
either_or false x rest other whole is = is

forms_append : (a b : List NodeForm) (s : Style) (node : Node)
    → text_in_forms (a ++ b) s node
    ≡ or_text (text_in_forms a s node) (text_in_forms b s node)
forms_append [] b s node = refl
forms_append (form ∷ a) b s node =
    either_or (is_form_of form s node) (text_in_form form s node.payload) (text_in_forms a s node)
    (text_in_forms b s node) (text_in_forms (a ++ b) s node) (forms_append a b s node)

sections_forms : (ts : List Section) (s : Style) (node : Node)
    → text_in_sections ts s node ≡ text_in_forms (forms_of ts) s node
sections_forms [] s node = refl
sections_forms (section ∷ ts) s node =
    ap (or_text (text_in_forms (forms_in section) s node)) (sections_forms ts s node)
    ∙ sym (forms_append (forms_in section) (forms_of ts) s node)

-- The text of a node is read as the node, by the forms of this crate.
pub reads_back : is_table forms ≡ true → (shortcuts : Bool) (node : Node) (text : List ℕ) → AreBytes node.payload
    → length node.payload ≤ 0xfffb → form_text (style false shortcuts) node ≡ Some text
    → piece_node text ≡ Some node
reads_back table shortcuts node text each short is =
    let holds = and_parts _ _ table in
    let by = written forms shortcuts node text each short holds.0 holds.1
    (sym (sections_forms sections (style false shortcuts) node) ∙ reads_sections sections (style false shortcuts) node refl
    ∙ ap (λ o. or_text o (read_form_text (style false shortcuts) node)) (shows_none (style false shortcuts) node refl) ∙ is) in
    let form = by.form in
    let texts : List (List ℕ) = argument_texts form.arguments node.payload in
    let fits = and_parts _ _ (by.within is_sound holds.0) in
    let reads = data_read form.arguments node.payload each fits.1 (and_parts _ _ by.has).1 in
    let called : call form.name texts ≡ text = ap (λ l. form.name ++ (codes "(" ++ l)) (sym (marked_closed texts)) ∙ by.is in
    ap piece_node (sym called) ∙ call_in_forms form.name texts (and_parts _ _ fits.0).0 reads.are ∙ by.first
