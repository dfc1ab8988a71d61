-- What a text of several selections selects.
use Rattle.std.proofs.Common.{ℕ, List, [], ◌∷◌, ◌++◌, append_assoc, sym, subst}
use Rattle.uefi_audits.specs.declared.verify.selection.PcrSelection.{PcrSelection}
use Rattle.uefi_audits.specs.verify.Reading.{Lacks}
use Rattle.uefi_audits.specs.verify.Selection.{AreSelections, IsCut, Selects}
use Rattle.uefi_audits.proofs.verify.Cuts.{cuts_agree, no_cut}

-- The selections of a text are some that were read and those of the rest.
pub record Continues (text : List ℕ) (read : List PcrSelection) (rest : List ℕ) : Type 0 where
  pub back : (more : List PcrSelection) → AreSelections rest more → AreSelections text (read ++ more)
  pub forth : (all : List PcrSelection) → AreSelections text all → (more : List PcrSelection) × AreSelections rest more

pub at_first : (text : List ℕ) → Continues text [] text
at_first text = record { back = λ more are. are; forth = λ all are. (all, are) }

-- What a selection before a plus sign adds.
add : (rest part after : List ℕ) (selection : PcrSelection) (more : List PcrSelection) → IsCut 43 rest part after
    → Selects part selection → AreSelections after more → AreSelections rest (selection ∷ more)
add rest part after selection [] cut is none = absurd none
add rest part after selection (other ∷ more) cut is are = (part, after, cut, is, are)

others : (rest part after : List ℕ) → IsCut 43 rest part after → (more : List PcrSelection) → AreSelections rest more
    → (left : List PcrSelection) × AreSelections after left
others rest part after cut [] none = absurd none
others rest part after cut (one ∷ []) last = absurd (no_cut 43 rest part after last.0 cut)
others rest part after cut (one ∷ other ∷ more) are = (
  other ∷ more,
  subst (λ (t : List ℕ). AreSelections t (other ∷ more)) (cuts_agree 43 rest are.0 are.1 part after are.2 cut).1 are.4,
)

pub one_more : (text : List ℕ) (read : List PcrSelection) (rest part after : List ℕ) (selection : PcrSelection)
    → Continues text read rest → IsCut 43 rest part after → Selects part selection
    → Continues text (read ++ selection ∷ []) after
one_more text read rest part after selection before cut is = record {
  back = λ more are. subst (λ (all : List PcrSelection). AreSelections text all) (sym (append_assoc read (selection ∷ []) more))
      (before.back (selection ∷ more) (add rest part after selection more cut is are));
  forth = λ all are. let left = before.forth all are in others rest part after cut left.0 left.1;
}

-- A wrong selection before a plus sign, or at the end.
pub wrong_part : (text : List ℕ) (read : List PcrSelection) (rest part after : List ℕ) → Continues text read rest
    → IsCut 43 rest part after → ((selection : PcrSelection) → Selects part selection → ⊥)
    → (all : List PcrSelection) → AreSelections text all → ⊥
wrong_part text read rest part after before cut none all are =
    let left = before.forth all are in stops left.0 left.1
  where
    stops : (more : List PcrSelection) → AreSelections rest more → ⊥
    stops [] none_left = none_left
    stops (one ∷ []) last = no_cut 43 rest part after last.0 cut
    stops (one ∷ other ∷ more) is =
        none one (subst (λ (t : List ℕ). Selects t one) (cuts_agree 43 rest is.0 is.1 part after is.2 cut).0 is.3)

pub wrong_last : (text : List ℕ) (read : List PcrSelection) (rest : List ℕ) → Continues text read rest → Lacks 43 rest
    → ((selection : PcrSelection) → Selects rest selection → ⊥) → (all : List PcrSelection) → AreSelections text all → ⊥
wrong_last text read rest before lacks none all are =
    let left = before.forth all are in stops left.0 left.1
  where
    stops : (more : List PcrSelection) → AreSelections rest more → ⊥
    stops [] none_left = none_left
    stops (one ∷ []) last = none one last.1
    stops (one ∷ other ∷ more) is = no_cut 43 rest is.0 is.1 lacks is.2

pub all_read : (text : List ℕ) (read : List PcrSelection) (rest : List ℕ) (selection : PcrSelection)
    → Continues text read rest → Lacks 43 rest → Selects rest selection → AreSelections text (read ++ selection ∷ [])
all_read text read rest selection before lacks is = before.back (selection ∷ []) (lacks, is)
