-- Whether the log has what an event measures, by the tests of its type and its data.
use Rattle.std.proofs.Common.{◌≡◌, ◌∙◌, ◌↔◌, IsTrue, List, [], ◌∷◌, length, ap, sym, refl, inl, inr, arith}
use Rattle.std.specs.Prelude.{Bool, true, false, ◌==◌}
use Rattle.std.proofs.lemmas.Bool.{eqb-true, true≢false}
use Rattle.uefi_tcg.specs.v2.Event.{Event}
use Rattle.uefi_audits.specs.declared.check.form.Form.{Form}
use Rattle.uefi_audits.specs.Check.{IsOutside, MayMeasureOther, forms_of}

empty_is : (forms : List Form) (empty : Bool) → empty ≡ (length forms == 0) → empty ≡ true → forms ≡ []
empty_is [] empty is so = refl
empty_is (form ∷ forms) empty is so = absurd (omega (arith, eqb-true (length (form ∷ forms)) 0 (sym is ∙ so)))

some_is : (forms : List Form) (empty : Bool) → empty ≡ (length forms == 0) → empty ≡ false → forms ≡ [] → ⊥
some_is [] empty is no_empty same = true≢false (sym is ∙ no_empty)
some_is (form ∷ forms) empty is no_empty same = absurd (omega (arith, ap length same))

-- The type has no forms.
pub outside_by_type : (event : Event) (forms : List Form) (empty : Bool) → forms ≡ forms_of event.event_type
    → empty ≡ (length forms == 0) → empty ≡ true → IsOutside event
outside_by_type event forms empty are is so = inl (sym are ∙ empty_is forms empty is so)

-- It has some, and the data name nothing else.
pub not_outside : (event : Event) (forms : List Form) (empty other : Bool) → forms ≡ forms_of event.event_type
    → empty ≡ (length forms == 0) → empty ≡ false → IsTrue other ↔ MayMeasureOther event → other ≡ false
    → IsOutside event → ⊥
not_outside event forms empty other are is no_empty may no_other (inl none) = some_is forms empty is no_empty (are ∙ none)
not_outside event forms empty other are is no_empty may no_other (inr may_be) =
    true≢false (sym (may.1 may_be) ∙ no_other)
