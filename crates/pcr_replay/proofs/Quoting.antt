-- The values of a quote's PCRs, one after another.
use Rattle.std.proofs.Common.{◌≡◌, ◌∙◌, ℕ, suc, ◌+◌, ◌<◌, ◌≤◌, List, [], ◌∷◌, ◌++◌, append_assoc, append-nil, drop, drop-cons, drop_of_length-le, get_or, length, map, ap, arith, refl, subst, sym}
use Rattle.std.specs.Prelude.{◌==◌, true, false, Option, None, Some, Result, Ok, Err}
use Rattle.pcr_replay.specs.Banks.{algorithm_of}
use Rattle.pcr_replay.specs.BankReplays.{BankOutcomes}
use Rattle.pcr_replay.specs.private.Hashers.{Holds}
use Rattle.pcr_replay.specs.Quotes.{followed_by, outcomes_of_algorithm, quoted_value, quoted_values}
use Rattle.pcr_replay.specs.Replay.{Outcome}
use Rattle.pcr_replay.specs.declared.hasher.Hasher.{Hasher}
use Rattle.pcr_replay.specs.declared.quote.NoQuoteDigest.{NoQuoteDigest}
use Rattle.pcr_replay.specs.private.Quoting.{Takes, TakesValues}

-- A hash function was given the values of the first PCRs, and these are left.
pub record TakenSo (banks : List BankOutcomes) (all left : List (ℕ × ℕ)) (old new : Hasher) : Type 0 where
  pub values : List ℕ
  pub are : quoted_values banks all ≡ followed_by (Ok values) (quoted_values banks left)
  pub taken : Takes values old new

nothing_first : (more : Result (List ℕ) NoQuoteDigest) → followed_by (Ok []) more ≡ more
nothing_first (Ok more) = refl
nothing_first (Err why) = refl

nothing_after : (values : List ℕ) → followed_by (Ok values) (Ok []) ≡ Ok values
nothing_after values = ap (λ them. Ok them) (append-nil values)

in_turn : (first second : List ℕ) (more : Result (List ℕ) NoQuoteDigest)
    → followed_by (Ok first) (followed_by (Ok second) more) ≡ followed_by (Ok (first ++ second)) more
in_turn first second (Ok more) = ap (λ them. Ok them) (sym (append_assoc first second more))
in_turn first second (Err why) = refl

-- Those of PCRs and of more.
pub both : (banks : List BankOutcomes) (pcrs more : List (ℕ × ℕ))
    → quoted_values banks (pcrs ++ more) ≡ followed_by (quoted_values banks pcrs) (quoted_values banks more)
unfolding quoted_values
both banks [] more = sym (nothing_first (quoted_values banks more))
both banks (pcr ∷ pcrs) more =
    ap (followed_by (quoted_value banks pcr)) (both banks pcrs more)
    ∙ by_value (quoted_value banks pcr) (quoted_values banks pcrs) (quoted_values banks more)
  where
    by_value : (first second third : Result (List ℕ) NoQuoteDigest)
        → followed_by first (followed_by second third) ≡ followed_by (followed_by first second) third
    by_value (Err why) second third = refl
    by_value (Ok first) (Err why) third = refl
    by_value (Ok first) (Ok second) third = in_turn first second third

-- None yet; some more; and all.
pub none_taken : (banks : List BankOutcomes) (all : List (ℕ × ℕ)) (hasher : Hasher) → TakenSo banks all all hasher hasher
none_taken banks all hasher = record {
  values = [];
  are = sym (nothing_first (quoted_values banks all));
  taken = λ bank message holds. subst (Holds bank hasher) (sym (append-nil message)) holds;
}

pub more_taken : (banks : List BankOutcomes) (all pcrs left : List (ℕ × ℕ)) (old hasher new : Hasher)
    → TakenSo banks all (pcrs ++ left) old hasher → TakesValues banks pcrs hasher new → TakenSo banks all left old new
more_taken banks all pcrs left old hasher new before some = record {
  values = before.values ++ some.values;
  are = before.are ∙ ap (followed_by (Ok before.values)) (both banks pcrs left ∙ ap (λ first. followed_by first (quoted_values banks left)) some.are)
      ∙ in_turn before.values some.values (quoted_values banks left);
  taken = λ bank message holds. subst (Holds bank new) (append_assoc message before.values some.values)
      (some.taken bank (message ++ before.values) (before.taken bank message holds));
}

pub all_taken : (banks : List BankOutcomes) (all : List (ℕ × ℕ)) (old new : Hasher) → TakenSo banks all [] old new
    → TakesValues banks all old new
unfolding quoted_values
all_taken banks all old new before = record {
  values = before.values;
  are = before.are ∙ nothing_after before.values;
  taken = before.taken;
}

-- One of them has no value.
pub none_of_it : (banks : List BankOutcomes) (all pcrs left : List (ℕ × ℕ)) (old new : Hasher) (why : NoQuoteDigest)
    → TakenSo banks all (pcrs ++ left) old new → quoted_values banks pcrs ≡ Err why → quoted_values banks all ≡ Err why
none_of_it banks all pcrs left old new why before none =
    before.are ∙ ap (followed_by (Ok before.values)) (both banks pcrs left ∙ ap (λ first. followed_by first (quoted_values banks left)) none)

-- One PCR.
pub one_value : (banks : List BankOutcomes) (pcr : ℕ × ℕ) (value : List ℕ) (old new : Hasher) → quoted_value banks pcr ≡ Ok value
    → Takes value old new → TakesValues banks (pcr ∷ []) old new
unfolding quoted_values
one_value banks pcr value old new is taken = record {
  values = value;
  are = ap (λ first. followed_by first (Ok [])) is ∙ nothing_after value;
  taken = taken;
}

pub no_value : (banks : List BankOutcomes) (pcr : ℕ × ℕ) (why : NoQuoteDigest) → quoted_value banks pcr ≡ Err why
    → quoted_values banks (pcr ∷ []) ≡ Err why
unfolding quoted_values
no_value banks pcr why is = ap (λ first. followed_by first (Ok [])) is

-- The bank of an algorithm, among banks in memory of which the first ones aren't.
module _ {B : Type 0} (holds : B → BankOutcomes) (banks : List B) (algorithm index : ℕ) where
  one_then_rest : (item : B) → index < length banks → item ≡ get_or banks index item
      → drop index banks ≡ item ∷ drop (index + 1) banks
  one_then_rest item within is =
      let next : suc index ≡ index + 1 = omega arith in
      drop-cons banks index item within ∙ ap (λ n. get_or banks index item ∷ drop n banks) next
      ∙ ap (λ first. first ∷ drop (index + 1) banks) (sym is)

  pub other_algorithm : (item : B) (found : Option (List Outcome))
      → index < length banks → item ≡ get_or banks index item → (algorithm_of (holds item).bank == algorithm) ≡ false
      → outcomes_of_algorithm algorithm (map holds (drop index banks)) ≡ found
      → outcomes_of_algorithm algorithm (map holds (drop (index + 1) banks)) ≡ found
  unfolding outcomes_of_algorithm
  other_algorithm item found within is other before =
      let here = ap (λ rest. outcomes_of_algorithm algorithm (map holds rest)) (one_then_rest item within is) in
      sym (here ∙ simp other refl) ∙ before

  pub its_algorithm : (item : B) (found : Option (List Outcome))
      → index < length banks → item ≡ get_or banks index item → (algorithm_of (holds item).bank == algorithm) ≡ true
      → outcomes_of_algorithm algorithm (map holds (drop index banks)) ≡ found → Some (holds item).outcomes ≡ found
  unfolding outcomes_of_algorithm
  its_algorithm item found within is same before =
      let here = ap (λ rest. outcomes_of_algorithm algorithm (map holds rest)) (one_then_rest item within is) in
      sym (here ∙ simp same refl) ∙ before

  pub no_bank_left : (found : Option (List Outcome)) → length banks ≤ index
      → outcomes_of_algorithm algorithm (map holds (drop index banks)) ≡ found → None ≡ found
  unfolding outcomes_of_algorithm
  no_bank_left found past before =
      sym (ap (λ rest. outcomes_of_algorithm algorithm (map holds rest)) (drop_of_length-le banks {i = index} past)) ∙ before
