-- Reading by one more form.
use Rattle.std.proofs.Common.{◌≡◌, ◌≤◌, ℕ, List, length, [], ◌∷◌, ◌++◌, refl, sym, ◌∙◌, ap, Bool, true, false, not, cond, Option, Some, None, append_assoc, subst, take, map, get_or, ◌+◌, ◌<◌}
use Rattle.std.specs.Str.{bytes_eq}
use Rattle.std.proofs.lemmas.Bool.{not-false}
use Rattle.std.proofs.lemmas.List.{append-nil, take_more, take_all, map-append}
use Rattle.uefi_path_text.specs.AllForms.{forms, forms_in, forms_of, sections}
use Rattle.uefi_path_text.specs.declared.forms.Section.{Section}
use Rattle.uefi_path_text.specs.form.NodeForm.{NodeForm}
use Rattle.uefi_path_text.specs.parse.Nodes.{or_else, node_in, first_node}
use Rattle.uefi_path_text.specs.private.Readings.{named, ReadsBy, IsWithin}
use Rattle.uefi_path_text.specs.private.Calls.{call_node}
use Rattle.uefi_path_text.specs.parse.Arguments.{texts_of}
use Rattle.uefi_path_text.specs.declared.parse.fault.Fault.{Fault}
use Rattle.uefi_path_text.specs.declared.parse.call.Call.{Call}
use Rattle.uefi_path_text.specs.declared.parse.reading.Reading.{Reading}

-- The forms of a name, of two lists.
filter_step : (b : Bool) (form : NodeForm) (front back whole : List NodeForm) → whole ≡ front ++ back
    → cond b (form ∷ whole) whole ≡ cond b (form ∷ front) front ++ back
filter_step true form front back whole is = ap (λ l. form ∷ l) is
filter_step false form front back whole is = is

pub named_append : (name : List ℕ) (front back : List NodeForm) → named name (front ++ back) ≡ named name front ++ named name back
named_append name [] back = refl
named_append name (form ∷ front) back =
    filter_step (bytes_eq form.name name) form (named name front) (named name back) (named name (front ++ back))
    (named_append name front back)

-- The first node of two lists of forms.
or_else_assoc : {A : Type 0} (a b c : Option A) → or_else (or_else a b) c ≡ or_else a (or_else b c)
or_else_assoc None b c = refl
or_else_assoc (Some a) b c = refl

pub first_append : (front back : List NodeForm) (texts : List (List ℕ))
    → first_node (front ++ back) texts ≡ or_else (first_node front texts) (first_node back texts)
first_append [] back texts = refl
first_append (form ∷ front) back texts =
    ap (or_else (node_in form texts)) (first_append front back texts)
    ∙ sym (or_else_assoc (node_in form texts) (first_node front texts) (first_node back texts))

-- A form of the name comes after those before.
or_none : {A : Type 0} (o : Option A) → or_else o None ≡ o
or_none None = refl
or_none (Some value) = refl

kept : (b : Bool) (form : NodeForm) → b ≡ true → cond b (form ∷ []) [] ≡ form ∷ []
kept true form is = refl
kept false form is = cc

one_more : (name : List ℕ) (form : NodeForm) (before : List NodeForm) (texts : List (List ℕ))
    → bytes_eq form.name name ≡ true
    → first_node (named name (before ++ (form ∷ []))) texts
    ≡ or_else (first_node (named name before) texts) (node_in form texts)
one_more name form before texts same =
    ap (λ l. first_node l texts) (named_append name before (form ∷ [])
    ∙ ap (λ l. named name before ++ l) (kept (bytes_eq form.name name) form same))
    ∙ first_append (named name before) (form ∷ []) texts
    ∙ ap (or_else (first_node (named name before) texts)) (or_none (node_in form texts))

-- No form fitted before.
none_before : (reading : Reading) (before : List NodeForm) (name arguments : List ℕ)
    → ((call : Call) → reading ≡ Reading.Node call → ⊥) → ReadsBy before name arguments reading
    → first_node (named name before) (texts_of arguments) ≡ None
none_before Reading.Unknown before name arguments other reads = ap (λ l. first_node l (texts_of arguments)) reads
none_before (Reading.Wrong fault) before name arguments other reads = reads.0
none_before (Reading.Node call) before name arguments other reads = absurd (other call refl)

-- The form has the name, as it was found.
pub is_named : (found own name : List ℕ) (differs : Bool) → found ≡ own → differs ≡ not (bytes_eq found name)
    → differs ≡ false → bytes_eq own name ≡ true
is_named found own name differs same is none = ap (λ l. bytes_eq l name) (sym same) ∙ not-false _ (sym is ∙ none)

-- A fault before is within the arguments.
within_before : (reading : Reading) (before : List NodeForm) (name arguments : List ℕ)
    → ReadsBy before name arguments reading → IsWithin reading (length arguments)
within_before Reading.Unknown before name arguments reads = tt
within_before (Reading.Wrong fault) before name arguments reads = reads.1
within_before (Reading.Node call) before name arguments reads = tt

-- The reading with the form, if it fits, and if it doesn't.
pub form_fits : (reading : Reading) (form : NodeForm) (name arguments : List ℕ) (call : Call)
    → bytes_eq form.name name ≡ true → ((other : Call) → reading ≡ Reading.Node other → ⊥)
    → node_in form (texts_of arguments) ≡ Some (call_node call) → (before : List NodeForm)
    → ReadsBy before name arguments reading → ReadsBy (before ++ (form ∷ [])) name arguments (Reading.Node call)
form_fits reading form name arguments call same other fits before reads =
    one_more name form before (texts_of arguments) same
    ∙ ap (λ o. or_else o (node_in form (texts_of arguments))) (none_before reading before name arguments other reads) ∙ fits

pub form_fails : (reading : Reading) (form : NodeForm) (name arguments : List ℕ) (fault farther : Fault)
    → bytes_eq form.name name ≡ true → ((other : Call) → reading ≡ Reading.Node other → ⊥)
    → node_in form (texts_of arguments) ≡ None → fault.offset ≤ length arguments
    → ((n : ℕ) → IsWithin reading n → fault.offset ≤ n → farther.offset ≤ n) → (before : List NodeForm)
    → ReadsBy before name arguments reading → ReadsBy (before ++ (form ∷ [])) name arguments (Reading.Wrong farther)
form_fails reading form name arguments fault farther same other fails within far before reads = (
  one_more name form before (texts_of arguments) same
      ∙ ap (λ o. or_else o (node_in form (texts_of arguments))) (none_before reading before name arguments other reads) ∙ fails,
  far (length arguments) (within_before reading before name arguments reads) within,
)

pub form_kept : (reading : Reading) (form : NodeForm) (name arguments : List ℕ) (call : Call)
    → bytes_eq form.name name ≡ true → reading ≡ Reading.Node call → (before : List NodeForm)
    → ReadsBy before name arguments reading → ReadsBy (before ++ (form ∷ [])) name arguments reading
form_kept reading form name arguments call same is before reads =
    let P : Reading → Type 0 = λ r. ReadsBy before name arguments r → ReadsBy (before ++ (form ∷ [])) name arguments r in
    subst P (sym is) (λ own. one_more name form before (texts_of arguments) same
    ∙ ap (λ o. or_else o (node_in form (texts_of arguments))) own) reads

-- After all forms so far.
pub next_reads : {A : Type 0} (view : A → NodeForm) (forms : List A) (i : ℕ) (form : A) (before : List NodeForm)
    → i < length forms
    → before ++ map view (take (i + 1) forms) ≡ (before ++ map view (take i forms)) ++ (view (get_or forms i form) ∷ [])
next_reads view forms i form before within =
    ap (λ l. before ++ map view l) (take_more forms i form within)
    ∙ ap (λ l. before ++ l) (map-append view (take i forms) (get_or forms i form ∷ []))
    ∙ sym (append_assoc before (map view (take i forms)) (view (get_or forms i form) ∷ []))

pub step_reads : {A : Type 0} (view : A → NodeForm) (forms : List A) (i : ℕ) (form : A) (name arguments : List ℕ)
    (first now next : Reading) → i < length forms
    → ((before : List NodeForm) → ReadsBy before name arguments first
    → ReadsBy (before ++ map view (take i forms)) name arguments now)
    → ((before : List NodeForm) → ReadsBy before name arguments now
    → ReadsBy (before ++ (view (get_or forms i form) ∷ [])) name arguments next)
    → (before : List NodeForm) → ReadsBy before name arguments first
    → ReadsBy (before ++ map view (take (i + 1) forms)) name arguments next
step_reads view forms i form name arguments first now next within so_far one before reads =
    subst (λ l. ReadsBy l name arguments next) (sym (next_reads view forms i form before within))
    (one (before ++ map view (take i forms)) (so_far before reads))

-- After all forms.
pub all_read : {A : Type 0} (view : A → NodeForm) (forms : List A) (i : ℕ) (name arguments : List ℕ) (first now : Reading)
    → length forms ≤ i → ((before : List NodeForm) → ReadsBy before name arguments first
    → ReadsBy (before ++ map view (take i forms)) name arguments now)
    → (before : List NodeForm) → ReadsBy before name arguments first → ReadsBy (before ++ map view forms) name arguments now
all_read view forms i name arguments first now past so_far before reads =
    subst (λ l. ReadsBy (before ++ map view l) name arguments now) (take_all i forms past) (so_far before reads)

-- After the forms of one more section.
forms_append : (a b : List Section) → forms_of (a ++ b) ≡ forms_of a ++ forms_of b
forms_append [] b = refl
forms_append (section ∷ a) b =
    ap (λ l. forms_in section ++ l) (forms_append a b) ∙ sym (append_assoc (forms_in section) (forms_of a) (forms_of b))

pub next_section : (sections : List Section) (i : ℕ) (section : Section) (name arguments : List ℕ) (now next : Reading)
    (own : List NodeForm) → i < length sections → own ≡ forms_in (get_or sections i section)
    → ReadsBy (forms_of (take i sections)) name arguments now
    → ((before : List NodeForm) → ReadsBy before name arguments now → ReadsBy (before ++ own) name arguments next)
    → ReadsBy (forms_of (take (i + 1) sections)) name arguments next
next_section sections i section name arguments now next own within is so_far one =
    let more : forms_of (take (i + 1) sections) ≡ forms_of (take i sections) ++ own =
    ap forms_of (take_more sections i section within)
    ∙ forms_append (take i sections) (get_or sections i section ∷ [])
    ∙ ap (λ l. forms_of (take i sections) ++ l) (append-nil (forms_in (get_or sections i section)) ∙ sym is) in
    subst (λ l. ReadsBy l name arguments next) (sym more) (one (forms_of (take i sections)) so_far)

pub all_sections : (items : List Section) (i : ℕ) (name arguments : List ℕ) (now : Reading) → items ≡ sections
    → length items ≤ i → ReadsBy (forms_of (take i items)) name arguments now → ReadsBy forms name arguments now
all_sections items i name arguments now are past reads =
    subst (λ l. ReadsBy (forms_of l) name arguments now) (take_all i items past ∙ are) reads
