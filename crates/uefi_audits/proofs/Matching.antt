-- Whether an event matches in a form, by the bytes that its data measure in it.
use Rattle.std.proofs.Common.{◌≡◌, ◌∙◌, ◌↔◌, ℕ, suc, ◌+◌, ◌<◌, ◌≤◌, List, [], ◌∷◌, ◌++◌, length, take, drop, get_or, append-nil, ap, sym, refl, subst, IsTrue}
use Rattle.std.specs.Prelude.{Bool, false, Some, None}
use Rattle.std.proofs.lemmas.Bool.{true≢false}
use Rattle.std.proofs.lemmas.List.{append_cancel_right, take-append-drop}
use Rattle.std.proofs.Math.Seq.{drop-cons}
use Rattle.std.proofs.lemmas.List.Elements.{All-more}
use Rattle.tcg_event.specs.Laws.{OneEncoded}
use Rattle.tcg_event.specs.Reading.{Reads}
use Rattle.tcg_event.specs.Variable.{IsVariable, ReadsVariable, Variable, variable_bytes}
use Rattle.uefi_tcg.specs.v2.Event.{Event}
use Rattle.uefi_audits.specs.declared.check.form.Form.{Form}
use Rattle.uefi_audits.specs.declared.check.form.Form.TheVariants.{Data, VariableValue, WithoutNul, WithNul, Command, Narrowed}
use Rattle.uefi_audits.specs.Check.{IsCommand, IsFirstMatch, MatchesBy, MatchesNoneOf, Measures, are_hashes, widened}
use Rattle.uefi_audits.proofs.Commands.{one_command}
use Rattle.uefi_audits.proofs.FirstOnes.{all_taken}
use Rattle.uefi_audits.proofs.Widening.{one_narrowed}

-- The only bytes that data measure decide.
by_bytes : (event : Event) (form : Form) (bytes : List ℕ) (found : Bool) → Measures form event.event_data bytes
    → ((other : List ℕ) → Measures form event.event_data other → other ≡ bytes) → found ≡ are_hashes bytes event
    → IsTrue found ↔ MatchesBy event form
by_bytes event form bytes found measures only is = (
  (λ yes_is. (bytes, measures, sym is ∙ yes_is)),
  λ matching. is ∙ ap (λ it. are_hashes it event) (sym (only matching.0 matching.1)) ∙ matching.2,
)

by_none : (event : Event) (form : Form) → ((other : List ℕ) → Measures form event.event_data other → ⊥)
    → IsTrue false ↔ MatchesBy event form
by_none event form none = (
  (λ wrong. absurd (true≢false (sym wrong))),
  λ matching. absurd (none matching.0 matching.1),
)

alone : (event : Event) (bytes : List ℕ) (found : Bool) → found ≡ are_hashes (bytes ++ []) event → found ≡ are_hashes bytes event
alone event bytes found is = is ∙ ap (λ it. are_hashes it event) (append-nil bytes)

pub by_data : (event : Event) (whole : List ℕ) (found : Bool) → whole ≡ event.event_data
    → found ≡ are_hashes (whole ++ []) event → IsTrue found ↔ MatchesBy event Data
unfolding Measures
by_data event whole found same is =
    by_bytes event Data whole found same (λ other also. also ∙ sym same) (alone event whole found is)

pub by_closed : (event : Event) (whole : List ℕ) (found : Bool) → whole ≡ event.event_data
    → found ≡ are_hashes (whole ++ 0 ∷ []) event → IsTrue found ↔ MatchesBy event WithNul
unfolding Measures
by_closed event whole found same is =
    let closed = ap (λ it. it ++ 0 ∷ []) same in
    by_bytes event WithNul (whole ++ 0 ∷ []) found closed (λ other also. also ∙ sym closed) is

pub by_text : (event : Event) (whole text : List ℕ) (found : Bool) → whole ≡ event.event_data → whole ≡ text ++ 0 ∷ []
    → found ≡ are_hashes (text ++ []) event → IsTrue found ↔ MatchesBy event WithoutNul
unfolding Measures
by_text event whole text found same closed is =
    by_bytes event WithoutNul text found (sym same ∙ closed)
    (λ other also. append_cancel_right other text (0 ∷ []) (sym also ∙ sym same ∙ closed)) (alone event text found is)

pub by_no_text : (event : Event) (whole : List ℕ) → whole ≡ event.event_data
    → ((text : List ℕ) → whole ≡ text ++ 0 ∷ [] → ⊥) → IsTrue false ↔ MatchesBy event WithoutNul
unfolding Measures
by_no_text event whole same none = by_none event WithoutNul (λ other also. none other (same ∙ also))

pub by_command : (event : Event) (whole command : List ℕ) (found : Bool) → whole ≡ event.event_data → IsCommand whole command
    → found ≡ are_hashes (command ++ []) event → IsTrue found ↔ MatchesBy event Command
unfolding Measures
by_command event whole command found same here is =
    let of_data = subst (λ it. IsCommand it command) same here in
    by_bytes event Command command found of_data
    (λ other also. one_command event.event_data command other of_data also) (alone event command found is)

pub by_no_command : (event : Event) (whole : List ℕ) → whole ≡ event.event_data
    → ((command : List ℕ) → IsCommand whole command → ⊥) → IsTrue false ↔ MatchesBy event Command
unfolding Measures
by_no_command event whole same none =
    by_none event Command (λ other also. none other (subst (λ it. IsCommand it other) (sym same) also))

pub by_narrowed : (event : Event) (whole bytes : List ℕ) (found : Bool) → whole ≡ event.event_data → whole ≡ widened bytes
    → found ≡ are_hashes (bytes ++ []) event → IsTrue found ↔ MatchesBy event Narrowed
unfolding Measures
by_narrowed event whole bytes found same wide is =
    by_bytes event Narrowed bytes found (sym same ∙ wide)
    (λ other also. one_narrowed bytes other (sym wide ∙ same ∙ also)) (alone event bytes found is)

pub by_not_narrowed : (event : Event) (whole : List ℕ) → whole ≡ event.event_data
    → ((bytes : List ℕ) → whole ≡ widened bytes → ⊥) → IsTrue false ↔ MatchesBy event Narrowed
unfolding Measures
by_not_narrowed event whole same none = by_none event Narrowed (λ other also. none other (same ∙ also))

pub by_value : (event : Event) (whole : List ℕ) (variable : Variable) (found : Bool) → OneEncoded IsVariable variable_bytes
    → whole ≡ event.event_data → ReadsVariable whole (Some variable) → found ≡ are_hashes (variable.payload ++ []) event
    → IsTrue found ↔ MatchesBy event VariableValue
unfolding Measures Reads
by_value event whole variable found one same reads is =
    by_bytes event VariableValue variable.payload found (variable, (reads.0, sym same ∙ reads.1), refl)
    (λ other also. also.2 ∙ ap (λ (it : Variable). it.payload)
    (one also.0 variable also.1.0 reads.0 (sym also.1.1 ∙ sym same ∙ reads.1)))
    (alone event variable.payload found is)

pub by_no_value : (event : Event) (whole : List ℕ) → whole ≡ event.event_data → ReadsVariable whole None
    → IsTrue false ↔ MatchesBy event VariableValue
unfolding Measures Reads
by_no_value event whole same none =
    by_none event VariableValue (λ other also. none also.0 also.1.0 (same ∙ also.1.1))

-- The first form that matches is after those that don't.
pub first_at : (event : Event) (forms : List Form) (index : ℕ) (default form : Form) → index < length forms
    → get_or forms index default ≡ form → MatchesNoneOf event (take index forms) → MatchesBy event form
    → IsFirstMatch event forms form
first_at event forms index default form within at none matches = (
  take index forms,
  drop (suc index) forms,
  sym (take-append-drop index forms)
      ∙ ap (λ it. take index forms ++ it) (drop-cons forms index default within)
      ∙ ap (λ it. take index forms ++ it ∷ drop (suc index) forms) at,
  none,
  matches,
)

-- One more form that doesn't match.
pub none_more : (event : Event) (forms : List Form) (index : ℕ) (default : Form) → index < length forms
    → MatchesNoneOf event (take index forms) → (MatchesBy event (get_or forms index default) → ⊥)
    → MatchesNoneOf event (take (index + 1) forms)
none_more event forms index default within none not_this =
    All-more (λ (it : Form). MatchesBy event it → ⊥) forms index default within none not_this

-- All forms.
pub none_of_all : (event : Event) (forms : List Form) (index : ℕ) → length forms ≤ index
    → MatchesNoneOf event (take index forms) → MatchesNoneOf event forms
none_of_all event forms index past none = subst (MatchesNoneOf event) (all_taken forms index past) none
