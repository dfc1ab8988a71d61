-- How the counts of types grow by one event.
use Rattle.std.proofs.Common.{◌≡◌, ◌∙◌, ℕ, suc, ◌+◌, ◌<◌, ◌≤◌, ◌^◌, List, [], ◌∷◌, ◌++◌, length, map, take, get_or, length-take, ap, ap₂, arith, add-zero, inl, inr, refl, subst, sym}
use Rattle.std.specs.Prelude.{Bool, true, false, cond, ◌==◌, ◌&&◌, ◌||◌, Option, Some, None, IsSome, slice_index, unwrap_or}
use Rattle.std.specs.BTreeMap.{BTreeMap, IsOrdered, get, keys, values}
use Rattle.std.specs.List.{All, Contains, list_any}
use Rattle.std.specs.Ordering.{nat_cmp}
use Rattle.std.specs.Cmp.{nat_cmp_total, nat_eq_equiv}
use Rattle.std.proofs.lemmas.Bool.{cases_eq, eq-eqb, ne_eqb, true≢false}
use Rattle.std.proofs.lemmas.List.{length-map, map_more}
use Rattle.std.proofs.lemmas.List.Folds.{list_any-append}
use Rattle.std.proofs.lemmas.List.Sums.{count_by-le-length, sum_by_push}
use Rattle.std.proofs.lemmas.Map.Keys.{IsStrictlyIncreasing-from_sorted}
use Rattle.std.proofs.lemmas.Map.Lookups.{exact_unsigned}
use Rattle.std.proofs.lemmas.Map.Views.{All-found, Contains-from_any, btree_map_contains_key_iff, exact_unsigned_eq, list_any-from_Contains}
use Rattle.std.proofs.lemmas.Option.{cond_some}
use Rattle.pcr_replay.proofs.Viewed.{any_view}
use Rattle.uefi_audits.specs.declared.check.Checked.{Checked}
use Rattle.uefi_audits.specs.declared.check.Checked.TheVariants.{Matches, MatchesNone, NotInLog}
use Rattle.uefi_audits.specs.declared.check.counts.TypeCounts.{TypeCounts}
use Rattle.uefi_audits.specs.declared.check.form.Form.{Form}
use Rattle.uefi_audits.specs.declared.check.form.Form.TheVariants.{Data, VariableValue, WithoutNul, WithNul, Command, Narrowed}
use Rattle.uefi_audits.specs.declared.check.result.CheckedEntry.{CheckedEntry}
use Rattle.uefi_audits.specs.CheckResult.{AreCounts, counts_in, form_index, how_many, is_match_at, is_match_in, type_of}
use Rattle.uefi_audits.specs.Findings.{Finding, is_match, is_mismatch, is_outside, is_uncovered}
use Rattle.uefi_audits.proofs.FirstOnes.{all_taken}
use Rattle.uefi_audits.specs.private.Counting.{CountsOneMore, HasRoom, counted, counts_at, finding_of, no_counts}

-- The counts of a type, if there is an event of it.
abbrev pub has_type : ℕ → List Finding → Bool
has_type number findings = list_any (λ it. number == type_of it) findings

abbrev pub counts_if_any : List Finding → ℕ → Option TypeCounts
counts_if_any findings number = cond (has_type number findings) (Some (counts_in findings number)) None

-- These are the counts of the events so far.
abbrev pub CountsSoFar : BTreeMap ℕ TypeCounts → List Finding → Type 0
CountsSoFar types findings = (number : ℕ) → get nat_cmp types number ≡ counts_if_any findings number

-- Of how many events something is said, with one more event.
more : (is_said : Option Checked → Bool) (number : ℕ) (findings : List Finding) (it : Finding)
    → how_many is_said number (findings ++ it ∷ [])
    ≡ how_many is_said number findings + cond ((number == type_of it) && is_said it.checked) 1 0
unfolding how_many
more is_said number findings it =
    sum_by_push (λ (it : Finding). cond ((number == type_of it) && is_said it.checked) 1 0) findings it

of_type : (is_said : Option Checked → Bool) (number : ℕ) (findings : List Finding) (it : Finding) → (number == type_of it) ≡ true
    → how_many is_said number findings + cond (is_said it.checked) 1 0 ≡ how_many is_said number (findings ++ it ∷ [])
of_type is_said number findings it same =
    sym (more is_said number findings it
    ∙ ap (λ same. how_many is_said number findings + cond (same && is_said it.checked) 1 0) same)

of_other : (is_said : Option Checked → Bool) (number : ℕ) (findings : List Finding) (it : Finding) → (number == type_of it) ≡ false
    → how_many is_said number findings ≡ how_many is_said number (findings ++ it ∷ [])
of_other is_said number findings it other =
    sym (more is_said number findings it
    ∙ ap (λ same. how_many is_said number findings + cond (same && is_said it.checked) 1 0) other
    ∙ add-zero (how_many is_said number findings))

-- The counts of a type by themselves, and with what one more event adds to each.
abbrev counts_with : ℕ → (ℕ → ℕ) → ℕ → ℕ → ℕ → ℕ → TypeCounts
counts_with number by_form matches none outside uncovered = record {
  event_type = record { 0 = number };
  matches = matches;
  by_form = by_form 0 ∷ by_form 1 ∷ by_form 2 ∷ by_form 3 ∷ by_form 4 ∷ by_form 5 ∷ [];
  matches_none = none;
  not_in_log = outside;
  not_covered = uncovered;
}

added : (checked : Option Checked) (number matches none outside uncovered : ℕ) (by_form : ℕ → ℕ)
    → counted checked (counts_with number by_form matches none outside uncovered)
    ≡ counts_with number (λ index. by_form index + cond (is_match_at index checked) 1 0) (matches + cond (is_match checked) 1 0)
    (none + cond (is_mismatch checked) 1 0) (outside + cond (is_outside checked) 1 0)
    (uncovered + cond (is_uncovered checked) 1 0)
added (Some (Matches Data)) number matches none outside uncovered by_form = simp add-zero
added (Some (Matches VariableValue)) number matches none outside uncovered by_form = simp add-zero
added (Some (Matches WithoutNul)) number matches none outside uncovered by_form = simp add-zero
added (Some (Matches WithNul)) number matches none outside uncovered by_form = simp add-zero
added (Some (Matches Command)) number matches none outside uncovered by_form = simp add-zero
added (Some (Matches Narrowed)) number matches none outside uncovered by_form = simp add-zero
added (Some MatchesNone) number matches none outside uncovered by_form = simp add-zero
added (Some NotInLog) number matches none outside uncovered by_form = simp add-zero
added None number matches none outside uncovered by_form = simp add-zero

-- The counts of a type with one more event of it, and with one of another type.
with_one : (findings : List Finding) (number : ℕ) (it : Finding) → (number == type_of it) ≡ true
    → counted it.checked (counts_in findings number) ≡ counts_in (findings ++ it ∷ []) number
with_one findings number it same =
    added it.checked number (how_many is_match number findings) (how_many is_mismatch number findings)
    (how_many is_outside number findings) (how_many is_uncovered number findings)
    (λ index. how_many (is_match_at index) number findings)
    ∙ (λ i. counts_with number (λ index. of_type (is_match_at index) number findings it same i)
    (of_type is_match number findings it same i) (of_type is_mismatch number findings it same i)
    (of_type is_outside number findings it same i) (of_type is_uncovered number findings it same i))

with_other : (findings : List Finding) (number : ℕ) (it : Finding) → (number == type_of it) ≡ false
    → counts_in findings number ≡ counts_in (findings ++ it ∷ []) number
with_other findings number it other = λ i.
    counts_with number (λ index. of_other (is_match_at index) number findings it other i)
    (of_other is_match number findings it other i) (of_other is_mismatch number findings it other i)
    (of_other is_outside number findings it other i) (of_other is_uncovered number findings it other i)

-- Without an event of a type nothing is said of any.
either_false : (one other : Bool) → (one || other) ≡ false → (one ≡ false) × (other ≡ false)
either_false true other none = absurd (true≢false none)
either_false false other none = (refl, none)

none_said : (is_said : Option Checked → Bool) (number : ℕ) (findings : List Finding) → has_type number findings ≡ false
    → how_many is_said number findings ≡ 0
unfolding how_many
none_said is_said number [] none = refl
none_said is_said number (it ∷ others) none =
    let parts = either_false (number == type_of it) (has_type number others) none in
    rw parts.0 (none_said is_said number others parts.1)

none_counted : (findings : List Finding) (number : ℕ) → has_type number findings ≡ false
    → no_counts number ≡ counts_in findings number
none_counted findings number none = λ i.
    counts_with number (λ index. sym (none_said (is_match_at index) number findings none) i)
    (sym (none_said is_match number findings none) i) (sym (none_said is_mismatch number findings none) i)
    (sym (none_said is_outside number findings none) i) (sym (none_said is_uncovered number findings none) i)

-- The counts of a type so far.
so_far : (types : BTreeMap ℕ TypeCounts) (findings : List Finding) (number : ℕ) → CountsSoFar types findings
    → counts_at types number ≡ counts_in findings number
so_far types findings number are =
    ap (λ it. unwrap_or it (no_counts number)) (are number) ∙ by_any (has_type number findings) refl
  where
    by_any : (any : Bool) → has_type number findings ≡ any
        → unwrap_or (cond any (Some (counts_in findings number)) None) (no_counts number) ≡ counts_in findings number
    by_any true is = refl
    by_any false is = none_counted findings number is

-- There is room for one more, while there are fewer events than a slice may have.
fits : (is_said : Option Checked → Bool) (number : ℕ) (findings : List Finding) → length findings + 1 < 2 ^ 64
    → how_many is_said number findings + 1 < 2 ^ 64
unfolding how_many
fits is_said number findings short =
    omega (arith, short, count_by-le-length (λ (it : Finding). (number == type_of it) && is_said it.checked) findings)

room : (findings : List Finding) (number : ℕ) → length findings + 1 < 2 ^ 64 → HasRoom (counts_in findings number)
room findings number short = record {
  matches = fits is_match number findings short;
  by_form = by_form;
  matches_none = fits is_mismatch number findings short;
  not_in_log = fits is_outside number findings short;
  not_covered = fits is_uncovered number findings short;
}
  where
    by_form : (form : Form) → slice_index (counts_in findings number).by_form (form_index form) + 1 < 2 ^ 64
    by_form Data = fits (is_match_in Data) number findings short
    by_form VariableValue = fits (is_match_in VariableValue) number findings short
    by_form WithoutNul = fits (is_match_in WithoutNul) number findings short
    by_form WithNul = fits (is_match_in WithNul) number findings short
    by_form Command = fits (is_match_in Command) number findings short
    by_form Narrowed = fits (is_match_in Narrowed) number findings short

pub has_room : (types : BTreeMap ℕ TypeCounts) (all : List CheckedEntry) (index number : ℕ)
    → CountsSoFar types (map finding_of (take index all)) → index < length all → index + 1 < 2 ^ 64
    → HasRoom (counts_at types number)
has_room types all index number are within short =
    subst HasRoom (sym (so_far types (map finding_of (take index all)) number are))
    (room (map finding_of (take index all)) number
    (simp (length-map, length-take) (omega (arith, within, short))))

-- No event yet.
pub none_yet : (types : BTreeMap ℕ TypeCounts) → types.entries ≡ [] → CountsSoFar types []
none_yet types none number = rw none refl

-- One more event.
has_more : (number : ℕ) (findings : List Finding) (it : Finding)
    → has_type number (findings ++ it ∷ []) ≡ (has_type number findings || ((number == type_of it) || false))
has_more number findings it = list_any-append (λ (it : Finding). number == type_of it) findings (it ∷ [])

pub one_more : (old new : BTreeMap ℕ TypeCounts) (findings : List Finding) (it : Finding) → CountsSoFar old findings
    → CountsOneMore old new (type_of it) it.checked → CountsSoFar new (findings ++ it ∷ [])
one_more old new findings it before grown number =
    elim (cases_eq number (type_of it)) [
      | inl same ↦ here number same (eq-eqb number (type_of it) same)
      | inr other ↦ apart number other (ne_eqb number (type_of it) other)
    ]
  where
    any_true : (one : Bool) → (one || true) ≡ true
    any_true true = refl
    any_true false = refl

    any_same : (one : Bool) → (one || false) ≡ one
    any_same true = refl
    any_same false = refl

    here : (number : ℕ) → number ≡ type_of it → (number == type_of it) ≡ true
        → get nat_cmp new number ≡ counts_if_any (findings ++ it ∷ []) number
    here number same test =
        ap (get nat_cmp new) same ∙ grown.here
        ∙ ap (λ n. Some (counted it.checked (counts_at old n))) (sym same)
        ∙ ap (λ c. Some (counted it.checked c)) (so_far old findings number before)
        ∙ ap (λ c. Some c) (with_one findings number it test)
        ∙ sym (ap (λ any. cond any (Some (counts_in (findings ++ it ∷ []) number)) None)
        (has_more number findings it ∙ ap (λ b. has_type number findings || (b || false)) test
        ∙ any_true (has_type number findings)))

    apart : (number : ℕ) → (number ≡ type_of it → ⊥) → (number == type_of it) ≡ false
        → get nat_cmp new number ≡ counts_if_any (findings ++ it ∷ []) number
    apart number other test =
        grown.others number other ∙ before number
        ∙ ap (λ c. cond (has_type number findings) (Some c) None) (with_other findings number it test)
        ∙ sym (ap (λ any. cond any (Some (counts_in (findings ++ it ∷ []) number)) None)
        (has_more number findings it ∙ ap (λ b. has_type number findings || (b || false)) test
        ∙ any_same (has_type number findings)))

-- One more of a list.
pub one_more_of : (old new : BTreeMap ℕ TypeCounts) (all : List CheckedEntry) (index : ℕ) (it : CheckedEntry)
    → index < length all → it ≡ get_or all index it → CountsSoFar old (map finding_of (take index all))
    → CountsOneMore old new (type_of (finding_of it)) it.checked
    → CountsSoFar new (map finding_of (take (index + 1) all))
one_more_of old new all index it within is before grown =
    subst (CountsSoFar new)
    (ap (λ (one : CheckedEntry). map finding_of (take index all) ++ finding_of one ∷ []) is
    ∙ sym (map_more finding_of all index it within))
    (one_more old new (map finding_of (take index all)) (finding_of it) before grown)

-- A list of the counts.
are_counts : (types : BTreeMap ℕ TypeCounts) (findings : List Finding) (counts : List TypeCounts)
    → IsOrdered nat_cmp types → CountsSoFar types findings → counts ≡ values types → AreCounts findings counts
are_counts types findings counts ordered are is = record {
  numbers = keys types;
  in_order = IsStrictlyIncreasing-from_sorted (keys types) ordered;
  of_each = λ number. (
    (λ among. found number (any_in number (are number) ((btree_map_contains_key_iff nat_cmp_total exact_unsigned types number).1 among))),
    (λ among. (btree_map_contains_key_iff nat_cmp_total exact_unsigned types number).0 (is_some number (are number) (any_of number among))),
  );
  each_is = is ∙ each types.entries (All-found nat_cmp_total types ordered);
}
  where
    any_in : (number : ℕ) → get nat_cmp types number ≡ counts_if_any findings number → IsSome (get nat_cmp types number)
        → has_type number findings ≡ true
    any_in number here some = by_any (has_type number findings) (subst IsSome here some)
      where
        by_any : (any : Bool) → IsSome (cond any (Some (counts_in findings number)) None) → any ≡ true
        by_any true some = refl
        by_any false some = absurd (true≢false (sym some))

    is_some : (number : ℕ) → get nat_cmp types number ≡ counts_if_any findings number → has_type number findings ≡ true
        → IsSome (get nat_cmp types number)
    is_some number here any =
        subst IsSome (sym (here ∙ ap (λ b. cond b (Some (counts_in findings number)) None) any)) refl

    found : (number : ℕ) → has_type number findings ≡ true → Contains (map type_of findings) number
    found number any =
        Contains-from_any exact_unsigned_eq number (map type_of findings)
        (sym (any_view (λ kind. number == kind) type_of findings) ∙ any)

    any_of : (number : ℕ) → Contains (map type_of findings) number → has_type number findings ≡ true
    any_of number among =
        any_view (λ kind. number == kind) type_of findings
        ∙ list_any-from_Contains nat_eq_equiv number (map type_of findings) among

    each : (entries : List (ℕ × TypeCounts)) → All (λ (e : ℕ × TypeCounts). get nat_cmp types e.0 ≡ Some e.1) entries
        → map (λ (e : ℕ × TypeCounts). e.1) entries ≡ map (counts_in findings) (map (λ (e : ℕ × TypeCounts). e.0) entries)
    each [] all = refl
    each (e ∷ others) all =
        let here = cond_some (has_type e.0 findings) (counts_in findings e.0) e.1 (sym (are e.0) ∙ all 0 e (omega arith)) in
        ap₂ (λ c cs. c ∷ cs) (sym here.1) (each others (λ k d within. all (suc k) d (omega (arith, within))))

pub all_counted : (types : BTreeMap ℕ TypeCounts) (all : List CheckedEntry) (index : ℕ) (counts : List TypeCounts)
    → length all ≤ index → IsOrdered nat_cmp types → CountsSoFar types (map finding_of (take index all))
    → counts ≡ values types → AreCounts (map finding_of all) counts
all_counted types all index counts past ordered are is =
    are_counts types (map finding_of all) counts ordered
    (subst (λ (them : List CheckedEntry). CountsSoFar types (map finding_of them)) (all_taken all index past) are) is
