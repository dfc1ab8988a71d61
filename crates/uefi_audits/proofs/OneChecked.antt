-- One thing is said of an event.
use Rattle.std.proofs.Common.{◌≡◌, ◌∙◌, suc, List, [], ◌∷◌, ◌++◌, ap, arith, refl, subst, sym}
use Rattle.uefi_tcg.specs.v2.Event.{Event}
use Rattle.uefi_audits.specs.Check.{IsFirstMatch, MatchesBy, MatchesNoneOf, forms_of}
use Rattle.uefi_audits.specs.Laws.{OneChecked}
use Rattle.uefi_audits.specs.declared.check.Checked.TheVariants.{Matches, MatchesNone, NotInLog}
use Rattle.uefi_audits.specs.declared.check.form.Form.{Form}

-- None of the forms after the first one.
others_none : (event : Event) (form : Form) (forms : List Form) → MatchesNoneOf event (form ∷ forms) → MatchesNoneOf event forms
others_none event form forms none = λ k d within. none (suc k) d (omega (arith, within))

-- One of the forms matches.
some_match : (event : Event) (before after : List Form) (form : Form) → MatchesBy event form
    → MatchesNoneOf event (before ++ form ∷ after) → ⊥
some_match event [] after form matches none = none 0 form (omega arith) matches
some_match event (first ∷ before) after form matches none =
    some_match event before after form matches (others_none event first (before ++ form ∷ after) none)

first_is : (event : Event) (forms : List Form) (form : Form) → IsFirstMatch event forms form → MatchesNoneOf event forms → ⊥
first_is event forms form first none =
    some_match event first.0 first.1 form first.4 (subst (MatchesNoneOf event) first.2 none)

-- The first form that matches is one.
one_first : (event : Event) (before also after rest : List Form) (form other : Form) → before ++ form ∷ after ≡ also ++ other ∷ rest
    → MatchesNoneOf event before → MatchesNoneOf event also → MatchesBy event form → MatchesBy event other → form ≡ other
one_first event [] [] after rest form other same none nor matches too = cc
one_first event [] (first ∷ also) after rest form other same none nor matches too =
    let is : form ≡ first = cc in absurd (nor 0 first (omega arith) (subst (MatchesBy event) is matches))
one_first event (first ∷ before) [] after rest form other same none nor matches too =
    let is : other ≡ first = cc in absurd (none 0 first (omega arith) (subst (MatchesBy event) is too))
one_first event (first ∷ before) (second ∷ also) after rest form other same none nor matches too =
    let others : before ++ form ∷ after ≡ also ++ other ∷ rest = cc in
    one_first event before also after rest form other others (others_none event first before none)
    (others_none event second also nor) matches too

pub one_checked : OneChecked
one_checked event (Matches form) (Matches other) one also =
    ap (λ it. Matches it)
    (one_first event one.0 also.0 one.1 also.1 form other (sym one.2 ∙ also.2) one.3 also.3 one.4 also.4)
one_checked event (Matches form) MatchesNone one also = absurd (first_is event (forms_of event.event_type) form one also.0)
one_checked event (Matches form) NotInLog one also = absurd (first_is event (forms_of event.event_type) form one also.0)
one_checked event MatchesNone (Matches other) one also = absurd (first_is event (forms_of event.event_type) other also one.0)
one_checked event MatchesNone MatchesNone one also = refl
one_checked event MatchesNone NotInLog one also = absurd (one.1 also.1)
one_checked event NotInLog (Matches other) one also = absurd (first_is event (forms_of event.event_type) other also one.0)
one_checked event NotInLog MatchesNone one also = absurd (also.1 one.1)
one_checked event NotInLog NotInLog one also = refl
