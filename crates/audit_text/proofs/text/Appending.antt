-- Texts that grow.
use Rattle.std.proofs.Common.{◌≡◌, ◌∙◌, ℕ, zero, suc, ◌+◌, ◌<◌, List, ◌++◌, length, get_or, take, ap, refl, sym, append_assoc}
use Rattle.std.specs.Prelude.{codes, flat_map}
use Rattle.std.specs.Fmt.{decimal}
use Rattle.hex.specs.Hex.{encode_upper}
use Rattle.audit_text.specs.text.Verdict.{start_text, value_text}
use Rattle.std.proofs.lemmas.List.{flat_map_more, take_more}

-- The lines of one more item.
pub lines_upto : {A : Type 0} (f : A → List ℕ) (all : List A) (index : ℕ) (item : A)
    (old now next : List ℕ) → index < length all → now ≡ old ++ flat_map f (take index all)
    → next ≡ now ++ f (get_or all index item) → next ≡ old ++ flat_map f (take (index + 1) all)
lines_upto f all index item old now next within before step =
    step ∙ ap (λ t. t ++ f (get_or all index item)) before
    ∙ flat_map_more f old (take index all) (get_or all index item)
    ∙ ap (λ xs. old ++ flat_map f xs) (sym (take_more all index item within))

-- The value to which a log leads.
pub first_value : (pcr locality : ℕ) (value old new : List ℕ) → pcr ≡ 0
    → new ≡ old ++ (codes ", the log leads to 0x" ++ (encode_upper value ++ (codes ", PCR 0 starts at locality "
    ++ (decimal locality ++ codes "\n")))) → new ≡ old ++ value_text pcr locality value
unfolding value_text start_text
first_value pcr locality value old new is more =
    rw is (more ∙ ap (λ t. old ++ (codes ", the log leads to 0x" ++ (encode_upper value ++ t)))
    (sym (append_assoc (codes ", PCR 0 starts at locality ") (decimal locality) (codes "\n"))))

pub other_value : (pcr locality : ℕ) (value old new : List ℕ) → (pcr ≡ 0 → ⊥)
    → new ≡ old ++ (codes ", the log leads to 0x" ++ (encode_upper value ++ codes "\n"))
    → new ≡ old ++ value_text pcr locality value
unfolding value_text start_text
other_value zero locality value old new other more = absurd (other refl)
other_value (suc pcr) locality value old new other more = more
