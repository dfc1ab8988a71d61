-- Texts in parentheses, one after another.
use Rattle.std.proofs.Common.{◌≡◌, ◌∙◌, ℕ, ◌+◌, ◌<◌, ◌≤◌, List, [], ◌∷◌, ◌++◌, length, take, get_or, ap, append-nil, append_assoc, refl, sym}
use Rattle.std.specs.Prelude.{Bool, true, false, ◌==◌, ◌||◌, codes, flat_map, if◌then◌else◌, slice_index}
use Rattle.std.specs.Fmt.{decimal}
use Rattle.std.proofs.lemmas.Grind.{flat_map-append}
use Rattle.uefi_audits.specs.CheckResult.{form_index}
use Rattle.uefi_audits.specs.declared.check.form.Form.{Form}
use Rattle.uefi_audits.proofs.FirstOnes.{all_taken, one_joined}
use Rattle.audit_text.specs.private.Forms.{has_some, next_text, opened}
use Rattle.audit_text.specs.text.Check.{form_texts, if_any, in_parentheses}
use Rattle.audit_text.specs.words.Forms.{form_name}

-- One more text.
one_opened : (texts : List (List ℕ)) (next : List ℕ) → opened (texts ++ next ∷ [])
    ≡ opened texts ++ next_text (has_some texts) (next ∷ [])
unfolding opened next_text
one_opened [] next = ap (λ t. codes " (" ++ t) (append-nil next)
one_opened (first ∷ others) next =
    ap (λ t. codes " (" ++ (first ++ t)) (flat_map-append (λ other. codes ", " ++ other) others (next ∷ [])
    ∙ ap (λ t. flat_map (λ other. codes ", " ++ other) others ++ t) (append-nil (codes ", " ++ next)))
    ∙ ap (λ t. codes " (" ++ t) (sym (append_assoc first _ (codes ", " ++ next)))
    ∙ sym (append_assoc (codes " (") _ (codes ", " ++ next))

none_opened : (texts : List (List ℕ)) → opened (texts ++ []) ≡ opened texts ++ next_text (has_some texts) []
unfolding next_text
none_opened texts = ap opened (append-nil texts) ∙ sym (append-nil (opened texts))

-- One more form, if an event matches in it.
next_opened : (texts : List (List ℕ)) (count : ℕ) (form : Form)
    → opened (texts ++ if_any count form) ≡ opened texts ++ next_text (has_some texts) (if_any count form)
unfolding if_any
next_opened texts count form = either (count == 0)
  where
    either : (none : Bool) → opened (texts ++ (if none then [] else (decimal count ++ (codes " " ++ form_name form)) ∷ []))
        ≡ opened texts ++ next_text (has_some texts) (if none then [] else (decimal count ++ (codes " " ++ form_name form)) ∷ [])
    either true = none_opened texts
    either false = one_opened texts (decimal count ++ (codes " " ++ form_name form))

some_joined : (texts more : List (List ℕ)) → has_some (texts ++ more) ≡ (has_some texts || has_some more)
some_joined [] more = refl
some_joined (first ∷ others) more = refl

-- The forms of a list up to an index, and one more.
forms_upto : (by_form : List ℕ) (forms : List Form) (index : ℕ) (form default : Form) → index < length forms
    → form ≡ get_or forms index default
    → form_texts by_form (take index forms) ++ if_any (slice_index by_form (form_index form)) form
    ≡ form_texts by_form (take (index + 1) forms)
forms_upto by_form forms index form default within is =
    let text : Form → List (List ℕ) = λ form. if_any (slice_index by_form (form_index form)) form in
    one_joined text forms (form_texts by_form (take index forms)) _ index default within refl
    (ap (λ it. form_texts by_form (take index forms) ++ text it) is)

pub text_upto : (by_form : List ℕ) (forms : List Form) (index count : ℕ) (form default : Form) (any : Bool) (old now next : List ℕ)
    → index < length forms → form ≡ get_or forms index default → count ≡ slice_index by_form (form_index form)
    → any ≡ has_some (form_texts by_form (take index forms)) → now ≡ old ++ opened (form_texts by_form (take index forms))
    → next ≡ now ++ next_text any (if_any count form) → next ≡ old ++ opened (form_texts by_form (take (index + 1) forms))
text_upto by_form forms index count form default any old now next within is counted some before more =
    let texts = form_texts by_form (take index forms) in
    let it : ℕ = slice_index by_form (form_index form) in
    more ∙ ap (λ c. now ++ next_text any (if_any c form)) counted
    ∙ ap (λ b. now ++ next_text b (if_any it form)) some
    ∙ ap (λ t. t ++ next_text (has_some texts) (if_any it form)) before
    ∙ append_assoc old (opened texts) (next_text (has_some texts) (if_any it form))
    ∙ ap (λ t. old ++ t) (sym (next_opened texts it form) ∙ ap opened (forms_upto by_form forms index form default within is))

pub any_upto : (by_form : List ℕ) (forms : List Form) (index count : ℕ) (form default : Form) (any now : Bool)
    → index < length forms → form ≡ get_or forms index default → count ≡ slice_index by_form (form_index form)
    → any ≡ has_some (form_texts by_form (take index forms)) → now ≡ (any || has_some (if_any count form))
    → now ≡ has_some (form_texts by_form (take (index + 1) forms))
any_upto by_form forms index count form default any now within is counted some is_now =
    let texts = form_texts by_form (take index forms) in
    let it : ℕ = slice_index by_form (form_index form) in
    is_now ∙ ap (λ c. any || has_some (if_any c form)) counted ∙ ap (λ b. b || has_some (if_any it form)) some
    ∙ sym (some_joined texts (if_any it form)) ∙ ap has_some (forms_upto by_form forms index form default within is)

-- Closed after the last one.
closed : (texts : List (List ℕ)) (old now next : List ℕ) → now ≡ old ++ opened texts → has_some texts ≡ true
    → next ≡ now ++ codes ")" → next ≡ old ++ in_parentheses texts
unfolding opened in_parentheses
closed [] old now next before some more = absurd (let h : false ≡ true = some in cc)
closed (first ∷ others) old now next before some more =
    more ∙ ap (λ t. t ++ codes ")") before ∙ append_assoc old _ (codes ")")
    ∙ ap (λ t. old ++ t) (append_assoc (codes " (") _ (codes ")") ∙ ap (λ t. codes " (" ++ t) (append_assoc first _ (codes ")")))

none_closed : (texts : List (List ℕ)) (old now : List ℕ) → now ≡ old ++ opened texts → has_some texts ≡ false
    → now ≡ old ++ in_parentheses texts
unfolding opened in_parentheses
none_closed [] old now before none = before
none_closed (first ∷ others) old now before none = absurd (let h : true ≡ false = none in cc)

-- After the last form of a list.
pub closed_upto : (by_form : List ℕ) (forms : List Form) (index : ℕ) (any : Bool) (old now next : List ℕ) → length forms ≤ index
    → any ≡ has_some (form_texts by_form (take index forms)) → now ≡ old ++ opened (form_texts by_form (take index forms))
    → any ≡ true → next ≡ now ++ codes ")" → next ≡ old ++ in_parentheses (form_texts by_form forms)
closed_upto by_form forms index any old now next past some before is more =
    closed (form_texts by_form (take index forms)) old now next before (sym some ∙ is) more
    ∙ ap (λ them. old ++ in_parentheses (form_texts by_form them)) (all_taken forms index past)

pub none_upto : (by_form : List ℕ) (forms : List Form) (index : ℕ) (any : Bool) (old now : List ℕ) → length forms ≤ index
    → any ≡ has_some (form_texts by_form (take index forms)) → now ≡ old ++ opened (form_texts by_form (take index forms))
    → any ≡ false → now ≡ old ++ in_parentheses (form_texts by_form forms)
none_upto by_form forms index any old now past some before none =
    none_closed (form_texts by_form (take index forms)) old now before (sym some ∙ none)
    ∙ ap (λ them. old ++ in_parentheses (form_texts by_form them)) (all_taken forms index past)
