-- What a text selects.
use Rattle.std.proofs.Common.{◌≡◌, ◌∙◌, ℕ, zero, suc, ◌≤◌, ◌<◌, List, [], ◌∷◌, ◌++◌, ap, ap₂, arith, append_assoc, get_or, inl, inr, refl, sym, subst}
use Rattle.std.specs.Prelude.{Bool, true, false, ◌||◌, Option, Some, None, MatchOption, IfNone, replicate}
use Rattle.std.proofs.lemmas.List.Folds.{list_any-append}
use Rattle.pcr_replay.specs.declared.bank.Bank.{Bank}
use Rattle.uefi_audits.specs.Naming.{bank_name}
use Rattle.uefi_audits.specs.declared.verify.selection.Range.{Range}
use Rattle.uefi_audits.specs.verify.Reading.{Lacks}
use Rattle.uefi_audits.specs.private.verify.Selected.{AreNamed}
use Rattle.uefi_audits.specs.verify.Selection.{AreItems, IsCut, IsItem, IsPcrNumber, IsSelection, is_in, is_named}
use Rattle.uefi_audits.proofs.verify.Cuts.{cuts_agree, no_cut}

-- A text has one number.
pub one_number : (text : List ℕ) (one other : ℕ) → IsPcrNumber text one → IsPcrNumber text other → one ≡ other
one_number text one other is also = let same = sym is.number ∙ also.number in cc

-- An item without a `-` that is no number is none.
pub no_number : (item : List ℕ) → Lacks 45 item → ((pcr : ℕ) → IsPcrNumber item pcr → ⊥) → (range : Range)
    → IsItem item range → ⊥
no_number item lacks none range is =
    elim is [ inl one ↦ none range.first one.1 | inr two ↦ no_cut 45 item two.front two.back lacks two.cut ]

-- An item with one is the range between the numbers on both sides.
pub between : (item front back : List ℕ) (found : Option Range) → IsCut 45 item front back
    → MatchOption found
    ((range : Range) → IsPcrNumber front range.first → IsPcrNumber back range.last → range.first ≤ range.last → ⊥)
    (λ range. IsPcrNumber front range.first × IsPcrNumber back range.last × (range.first ≤ range.last))
    → MatchOption found ((range : Range) → IsItem item range → ⊥) (IsItem item)
between item front back None cut none = λ range is.
    elim is [
      | inl one ↦ no_cut 45 item front back one.0 cut
      | inr two ↦ let same = cuts_agree 45 item two.front two.back front back two.cut cut in
          none range (subst (λ (t : List ℕ). IsPcrNumber t range.first) same.0 two.is_first)
          (subst (λ (t : List ℕ). IsPcrNumber t range.last) same.1 two.is_last) two.ascend
    ]
between item front back (Some range) cut is =
    inr (record { front = front; back = back; cut = cut; is_first = is.0; is_last = is.1; ascend = is.2 })

same_range : (one other : Range) → one.first ≡ other.first → one.last ≡ other.last → one ≡ other
same_range one other first last = ap₂ (λ f l. let range : Range = record { first = f; last = l } in range) first last

-- An item names one range, which ends below 24.
pub one_item : (item : List ℕ) (one other : Range) → IsItem item one → IsItem item other → one ≡ other
one_item item one other is also =
    elim is [
      | inl here ↦ elim also [
        | inl there ↦ let first = one_number item one.first other.first here.1 there.1 in
            same_range one other first (here.2 ∙ first ∙ sym there.2)
        | inr there ↦ absurd (no_cut 45 item there.front there.back here.0 there.cut)
      ]
      | inr here ↦ elim also [
        | inl there ↦ absurd (no_cut 45 item here.front here.back there.0 here.cut)
        | inr there ↦ let same = cuts_agree 45 item here.front here.back there.front there.back here.cut there.cut in
            let first = one_number there.front one.first other.first
            (subst (λ (t : List ℕ). IsPcrNumber t one.first) same.0 here.is_first) there.is_first in
            let last = one_number there.back one.last other.last
            (subst (λ (t : List ℕ). IsPcrNumber t one.last) same.1 here.is_last) there.is_last in
            same_range one other first last
      ]
    ]

pub ascends : (item : List ℕ) (range : Range) → IsItem item range → range.first ≤ range.last
ascends item range is = elim is [ inl one ↦ omega (arith, one.2) | inr two ↦ two.ascend ]

pub within : (item : List ℕ) (range : Range) → IsItem item range → range.last < 24
within item range is = elim is [ inl one ↦ omega (arith, one.2, one.1.within) | inr two ↦ two.is_last.within ]

-- One more range.
pub named_more : (ranges : List Range) (range : Range) (old new : List Bool) → AreNamed ranges old
    → ((pcr : ℕ) → get_or new pcr false ≡ (get_or old pcr false || is_in pcr range))
    → AreNamed (ranges ++ range ∷ []) new
named_more ranges range old new before step = λ pcr.
    step pcr ∙ ap (λ b. b || is_in pcr range) (before pcr)
    ∙ sym (list_any-append (is_in pcr) ranges (range ∷ []) ∙ ap (λ b. is_named ranges pcr || b) (or_none (is_in pcr range)))
  where
    or_none : (b : Bool) → (b || false) ≡ b
    or_none true = refl
    or_none false = refl

-- The items of a text are some that were read and those of the rest.
pub record GoesOn (text : List ℕ) (ranges : List Range) (rest : List ℕ) : Type 0 where
  pub back : (more : List Range) → AreItems rest more → AreItems text (ranges ++ more)
  pub forth : (all : List Range) → AreItems text all → (more : List Range) × (all ≡ ranges ++ more) × AreItems rest more

-- No PCR is named at first.
pub none_named : (count pcr : ℕ) → get_or (replicate count false) pcr false ≡ false
none_named zero pcr = refl
none_named (suc count) zero = refl
none_named (suc count) (suc pcr) = none_named count pcr

pub at_first : (text : List ℕ) → GoesOn text [] text
at_first text = record { back = λ more is. is; forth = λ all is. (all, refl, is) }

-- What an item before a comma adds.
add_item : (rest item after : List ℕ) (range : Range) (more : List Range) → IsCut 44 rest item after
    → IsItem item range → AreItems after more → AreItems rest (range ∷ more)
add_item rest item after range [] cut is none = absurd none
add_item rest item after range (other ∷ more) cut is are = (item, after, cut, is, are)

take_item : (rest item after : List ℕ) (range : Range) (all : List Range) → IsCut 44 rest item after
    → IsItem item range → AreItems rest all → (more : List Range) × (all ≡ range ∷ more) × AreItems after more
take_item rest item after range [] cut is none = absurd none
take_item rest item after range (one ∷ []) cut is are = absurd (no_cut 44 rest item after are.0 cut)
take_item rest item after range (one ∷ other ∷ all) cut is are =
    let same = cuts_agree 44 rest are.0 are.1 item after are.2 cut in
    let here = subst (λ (t : List ℕ). IsItem t one) same.0 are.3 in (
      other ∷ all,
      ap (λ r. r ∷ other ∷ all) (one_item item one range here is),
      subst (λ (t : List ℕ). AreItems t (other ∷ all)) same.1 are.4,
    )

pub one_more : (text : List ℕ) (ranges : List Range) (rest item after : List ℕ) (range : Range)
    → GoesOn text ranges rest → IsCut 44 rest item after → IsItem item range
    → GoesOn text (ranges ++ range ∷ []) after
one_more text ranges rest item after range before cut is = record {
  back = λ more are. subst (λ (rs : List Range). AreItems text rs) (sym (append_assoc ranges (range ∷ []) more))
      (before.back (range ∷ more) (add_item rest item after range more cut is are));
  forth = λ all are. let so = before.forth all are in
      let taken = take_item rest item after range so.0 cut is so.2 in (
        taken.0,
        so.1 ∙ ap (λ rs. ranges ++ rs) taken.1 ∙ sym (append_assoc ranges (range ∷ []) taken.0),
        taken.2,
      );
}

-- A wrong item before a comma, or at the end.
pub wrong_item : (text : List ℕ) (ranges : List Range) (rest item after : List ℕ) → GoesOn text ranges rest
    → IsCut 44 rest item after → ((range : Range) → IsItem item range → ⊥) → (all : List Range) → AreItems text all → ⊥
wrong_item text ranges rest item after before cut none all are =
    let so = before.forth all are in stops so.0 so.2
  where
    stops : (more : List Range) → AreItems rest more → ⊥
    stops [] none_left = none_left
    stops (one ∷ []) last = no_cut 44 rest item after last.0 cut
    stops (one ∷ other ∷ more) is =
        none one (subst (λ (t : List ℕ). IsItem t one) (cuts_agree 44 rest is.0 is.1 item after is.2 cut).0 is.3)

pub wrong_last : (text : List ℕ) (ranges : List Range) (rest : List ℕ) → GoesOn text ranges rest → Lacks 44 rest
    → ((range : Range) → IsItem rest range → ⊥) → (all : List Range) → AreItems text all → ⊥
wrong_last text ranges rest before lacks none all are =
    let so = before.forth all are in stops so.0 so.2
  where
    stops : (more : List Range) → AreItems rest more → ⊥
    stops [] none_left = none_left
    stops (one ∷ []) last = none one last.1
    stops (one ∷ other ∷ more) is = no_cut 44 rest is.0 is.1 lacks is.2

pub all_items : (text : List ℕ) (ranges : List Range) (rest : List ℕ) (range : Range) → GoesOn text ranges rest
    → Lacks 44 rest → IsItem rest range → AreItems text (ranges ++ range ∷ [])
all_items text ranges rest range before lacks is = before.back (range ∷ []) (lacks, is)

-- A text is one of all banks, or of one.
of_all : (text : List ℕ) → Lacks 58 text → ((ranges : List Range) → AreItems text ranges → ⊥)
    → (bank : Option Bank) (ranges : List Range) → IsSelection text bank ranges → ⊥
of_all text lacks none None ranges is = none ranges is.1
of_all text lacks none (Some bank) ranges is = no_cut 58 text (bank_name bank) is.0 lacks is.1

pub no_bank : (text name items : List ℕ) → IsCut 58 text name items → ((bank : Bank) → name ≡ bank_name bank → ⊥)
    → (bank : Option Bank) (ranges : List Range) → IsSelection text bank ranges → ⊥
no_bank text name items cut none None ranges is = no_cut 58 text name items is.0 cut
no_bank text name items cut none (Some bank) ranges is =
    none bank (cuts_agree 58 text name items (bank_name bank) is.0 cut is.1).0

no_items : (text name items : List ℕ) → IsCut 58 text name items → ((ranges : List Range) → AreItems items ranges → ⊥)
    → (bank : Option Bank) (ranges : List Range) → IsSelection text bank ranges → ⊥
no_items text name items cut none None ranges is = no_cut 58 text name items is.0 cut
no_items text name items cut none (Some bank) ranges is =
    none ranges (subst (λ (t : List ℕ). AreItems t ranges)
    (sym (cuts_agree 58 text name items (bank_name bank) is.0 cut is.1).1) is.2)

-- Without a result there is none.
pub of_all_if : {A : Type 0} (text : List ℕ) (found : Option A) (P : A → Type 0) → Lacks 58 text
    → MatchOption found ((ranges : List Range) → AreItems text ranges → ⊥) P
    → IfNone found ((bank : Option Bank) (ranges : List Range) → IsSelection text bank ranges → ⊥)
of_all_if text None P lacks none = of_all text lacks none
of_all_if text (Some found) P lacks is = tt

pub no_items_if : {A : Type 0} (text name items : List ℕ) (found : Option A) (P : A → Type 0) → IsCut 58 text name items
    → MatchOption found ((ranges : List Range) → AreItems items ranges → ⊥) P
    → IfNone found ((bank : Option Bank) (ranges : List Range) → IsSelection text bank ranges → ⊥)
no_items_if text name items None P cut none = no_items text name items cut none
no_items_if text name items (Some found) P cut is = tt
