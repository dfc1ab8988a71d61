-- The verdict on PCRs is agreement exactly if the log leads to each of them.
use Rattle.std.proofs.Common.{◌≡◌, ◌∙◌, ℕ, zero, suc, ◌+◌, List, [], ◌∷◌, length, map, drop, get_or, ap, ap₂, zero-add, sym, refl, arith}
use Rattle.std.specs.Prelude.{◌↔◌, ◌==◌, ◌&&◌, ◌||◌, ◌<◌, ◌≤◌, count_by, not, Bool, true, false, cond, nat_lt, slice_get, Option, None, Some, Ok, Err}
use Rattle.std.specs.List.{Any, filter, list_all, list_any}
use Rattle.std.specs.Option.{option_and_then}
use Rattle.std.proofs.lemmas.Bool.Decides.{nat_tests}
use Rattle.std.proofs.lemmas.List.Folds.{Any-from_list_any, list_any-from_Any}
use Rattle.std.specs.Cmp.Lexicographic.{bytes_decides}
use Rattle.std.proofs.lemmas.Bool.{and_right, eqb-true, ne_eqb}
use Rattle.std.proofs.lemmas.List.Sums.{AllPass-from_list_all, list_all-from_AllPass, sum_by-cons}
use Rattle.std.proofs.Math.ListN.{drop_of_length-le}
use Rattle.std.proofs.Math.Seq.{drop-cons}
use Rattle.pcr_replay.specs.declared.bank.Bank.{Bank}
use Rattle.pcr_replay.specs.declared.bank.Bank.TheVariants.{Sha1, Sha256, Sha384, Sha512, Sm3}
use Rattle.pcr_replay.specs.declared.start.Start.{Start}
use Rattle.pcr_replay.specs.Banks.{algorithm_of, all_banks}
use Rattle.pcr_replay.specs.Start.{start_at}
use Rattle.uefi_tcg.specs.Entries.{Entry}
use Rattle.pcr_replay.specs.Replay.{Outcome, outcomes}
use Rattle.pcr_replay.specs.Views.{outcomes_of, value_of}
use Rattle.pcr_replay.specs.declared.bank_pcrs.BankPcrs.{BankPcrs}
use Rattle.uefi_audits.specs.KnownStart.{assumed_start, is_stated, known_start, start_by}
use Rattle.uefi_audits.specs.declared.known_start.KnownStart.{KnownStart}
use Rattle.uefi_audits.specs.declared.verify.held.HeldPcr.{HeldPcr}
use Rattle.pcr_replay.specs.BankReplays.{BankOutcomes, bank_outcomes_of, replayed}
use Rattle.uefi_audits.specs.Naming.{bank_of}
use Rattle.uefi_audits.specs.verify.Banks.{held_banks, is_held, is_same_bank}
use Rattle.uefi_audits.specs.verify.Verdict.{AgreeAtOne, AgreeByVerdict, Comparison, agrees, compared_at, differs, disagreeing, is_agreement, is_undetermined, is_value, led_to, nearer, nearest, outcomes_in, starts, undetermined, verdict_of}

-- Banks of one algorithm are one.
bank_by : (bank : Bank) → bank_of (algorithm_of bank) ≡ Some bank
unfolding bank_of
bank_by Sha1 = refl
bank_by Sha256 = refl
bank_by Sha384 = refl
bank_by Sha512 = refl
bank_by Sm3 = refl

same_bank : (one other : Bank) → is_same_bank one other ≡ true → one ≡ other
same_bank one other same =
    let here = sym (bank_by one) ∙ ap bank_of (eqb-true (algorithm_of one) (algorithm_of other) same) ∙ bank_by other in cc

same_itself : (bank : Bank) → is_same_bank bank bank ≡ true
same_itself Sha1 = refl
same_itself Sha256 = refl
same_itself Sha384 = refl
same_itself Sha512 = refl
same_itself Sm3 = refl

one_bank : (one other : Bank) → one ≡ other → is_same_bank one other ≡ true
one_bank one other same = ap (is_same_bank one) (sym same) ∙ same_itself one

another_bank : (one other : Bank) → (one ≡ other → ⊥) → is_same_bank one other ≡ false
another_bank one other differ = either (is_same_bank one other) refl
  where
    either : (same : Bool) → is_same_bank one other ≡ same → is_same_bank one other ≡ false
    either true is = absurd (differ (same_bank one other is))
    either false is = is

-- One bank that isn't the one which is sought, and the one which is.
one_then_rest : (replays : List BankPcrs) (index : ℕ) (item : BankPcrs) → index < length replays
    → item ≡ get_or replays index item → drop index replays ≡ item ∷ drop (index + 1) replays
one_then_rest replays index item within is =
    let next : suc index ≡ index + 1 = omega arith in
    drop-cons replays index item within ∙ ap (λ n. get_or replays index item ∷ drop n replays) next
    ∙ ap (λ first. first ∷ drop (index + 1) replays) (sym is)

pub other_bank : (replays : List BankPcrs) (bank : Bank) (index : ℕ) (item : BankPcrs) (found : Option (List Outcome))
    → index < length replays → item ≡ get_or replays index item → (item.bank ≡ bank → ⊥)
    → outcomes_in (map bank_outcomes_of (drop index replays)) bank ≡ found
    → outcomes_in (map bank_outcomes_of (drop (index + 1) replays)) bank ≡ found
unfolding outcomes_in
other_bank replays bank index item found within is other before =
    let here = ap (λ rest. outcomes_in (map bank_outcomes_of rest) bank) (one_then_rest replays index item within is) in
    sym (here ∙ simp (another_bank item.bank bank other) refl) ∙ before

pub its_bank : (replays : List BankPcrs) (bank : Bank) (index : ℕ) (item : BankPcrs) (found : Option (List Outcome))
    → index < length replays → item ≡ get_or replays index item → item.bank ≡ bank
    → outcomes_in (map bank_outcomes_of (drop index replays)) bank ≡ found → Some (outcomes_of item.pcrs) ≡ found
unfolding outcomes_in
its_bank replays bank index item found within is same before =
    let here = ap (λ rest. outcomes_in (map bank_outcomes_of rest) bank) (one_then_rest replays index item within is) in
    sym (here ∙ simp (one_bank item.bank bank same) refl) ∙ before

pub no_bank_left : (replays : List BankPcrs) (bank : Bank) (index : ℕ) (found : Option (List Outcome))
    → length replays ≤ index → outcomes_in (map bank_outcomes_of (drop index replays)) bank ≡ found → None ≡ found
unfolding outcomes_in
no_bank_left replays bank index found past before =
    sym (ap (λ rest. outcomes_in (map bank_outcomes_of rest) bank) (drop_of_length-le replays {i = index} past)) ∙ before

-- The outcomes of a bank that was replayed.
its_outcomes : (start : Start) (entries : List Entry) (bank : Bank) (banks : List Bank)
    → list_any (λ one. is_same_bank one bank) banks ≡ true
    → outcomes_in (map (replayed start entries) banks) bank ≡ Some (outcomes bank start entries)
unfolding outcomes_in
its_outcomes start entries bank [] none = cc
its_outcomes start entries bank (one ∷ banks) found =
    decide (λ more. its_outcomes start entries bank banks more) (is_same_bank one bank) refl
  where
    decide : (list_any (λ other. is_same_bank other bank) banks ≡ true
        → outcomes_in (map (replayed start entries) banks) bank ≡ Some (outcomes bank start entries))
        → (b : Bool) → is_same_bank one bank ≡ b
        → outcomes_in (map (replayed start entries) (one ∷ banks)) bank ≡ Some (outcomes bank start entries)
    decide rest true same = simp same (ap (λ b. Some (outcomes b start entries)) (same_bank one bank same))
    decide rest false other = simp other (rest (simp other at found))

-- A bank of which a PCR is held is among the held banks.
kept : (passes : Bank → Bool) (bank : Bank) (banks : List Bank) → passes bank ≡ true
    → list_any (λ one. is_same_bank one bank) banks ≡ true
    → list_any (λ one. is_same_bank one bank) (filter passes banks) ≡ true
kept passes bank [] pass none = none
kept passes bank (one ∷ banks) pass found =
    decide (λ more. kept passes bank banks pass more) (passes one) (is_same_bank one bank) refl refl
  where
    decide : (list_any (λ other. is_same_bank other bank) banks ≡ true
        → list_any (λ other. is_same_bank other bank) (filter passes banks) ≡ true)
        → (p s : Bool) → passes one ≡ p → is_same_bank one bank ≡ s
        → list_any (λ other. is_same_bank other bank) (filter passes (one ∷ banks)) ≡ true
    decide rest true true keeps same = simp (keeps, same) refl
    decide rest true false keeps other = simp (keeps, other) (rest (simp other at found))
    decide rest false true drops same =
        let h : true ≡ false = sym pass ∙ ap passes (sym (same_bank one bank same)) ∙ drops in cc
    decide rest false false drops other = simp drops (rest (simp other at found))

among_all : (bank : Bank) → list_any (λ one. is_same_bank one bank) all_banks ≡ true
among_all Sha1 = refl
among_all Sha256 = refl
among_all Sha384 = refl
among_all Sha512 = refl
among_all Sm3 = refl

its_bank_is_held : (bank : Bank) (held : List HeldPcr) → is_held held bank ≡ true
    → list_any (λ one. is_same_bank one bank) (held_banks held) ≡ true
its_bank_is_held bank held is = kept (is_held held) bank all_banks is (among_all bank)

-- The verdict is agreement exactly if all agree.
never_both : (value : List ℕ) (outcome : Option Outcome) → is_value value outcome ≡ true
    → is_undetermined outcome ≡ false
never_both value None is = refl
never_both value (Some (Ok found)) is = refl
never_both value (Some (Err at)) is = cc

count_none : {A : Type 0} (passes : A → Bool) (x : A) (xs : List A) → passes x ≡ false
    → count_by passes (x ∷ xs) ≡ count_by passes xs
count_none passes x xs other =
    sum_by-cons (λ y. cond (passes y) 1 0) x xs ∙ ap (λ b. cond b 1 0 + count_by passes xs) other
    ∙ zero-add (count_by passes xs)

count_one : {A : Type 0} (passes : A → Bool) (x : A) (xs : List A) → passes x ≡ true
    → (count_by passes (x ∷ xs) == 0) ≡ false
count_one passes x xs is =
    ap (λ n. n == 0) (sum_by-cons (λ y. cond (passes y) 1 0) x xs) ∙ ap (λ b. cond b 1 0 + count_by passes xs == 0) is
    ∙ ne_eqb (1 + count_by passes xs) 0 (λ none. omega (arith, none))

abbrev none_left : List BankOutcomes → List HeldPcr → Bool
none_left replays held = (count_by (differs replays) held == 0) && (count_by (undetermined replays) held == 0)

all_agree : (replays : List BankOutcomes) (held : List HeldPcr) → none_left replays held ≡ list_all (agrees replays) held
unfolding agrees undetermined
all_agree replays [] = refl
all_agree replays (pcr ∷ held) =
    decide (all_agree replays held) (agrees replays pcr) (undetermined replays pcr) refl refl
  where
    decide : none_left replays held ≡ list_all (agrees replays) held → (a u : Bool)
        → agrees replays pcr ≡ a → undetermined replays pcr ≡ u
        → none_left replays (pcr ∷ held) ≡ list_all (agrees replays) (pcr ∷ held)
    decide rest true true is known =
        let h : true ≡ false = sym known ∙ never_both (value_of pcr.value) (led_to replays pcr) is in cc
    decide rest true false is known =
        ap₂ (λ d u. (d == 0) && (u == 0))
        (count_none (differs replays) pcr held (ap₂ (λ a u. not a && not u) is known))
        (count_none (undetermined replays) pcr held known)
        ∙ rest ∙ sym (ap (λ b. b && list_all (agrees replays) held) is)
    decide rest false true not_it known =
        ap (λ b. (count_by (differs replays) (pcr ∷ held) == 0) && b) (count_one (undetermined replays) pcr held known)
        ∙ and_right (count_by (differs replays) (pcr ∷ held) == 0) false refl
        ∙ sym (ap (λ b. b && list_all (agrees replays) held) not_it)
    decide rest false false not_it known =
        ap (λ b. b && (count_by (undetermined replays) (pcr ∷ held) == 0))
        (count_one (differs replays) pcr held (ap₂ (λ a u. not a && not u) not_it known))
        ∙ sym (ap (λ b. b && list_all (agrees replays) held) not_it)

-- A PCR agrees exactly if the log leads to its value.
value_is : (value : List ℕ) (outcome : Option Outcome) → (is_value value outcome ≡ true) ↔ (outcome ≡ Some (Ok value))
value_is value None = ((λ so. cc), (λ so. cc))
value_is value (Some (Ok found)) = (
  (λ so. ap (λ v. Some (Ok v)) ((bytes_decides found value).0 so)),
  (λ so. (bytes_decides found value).1 (let same : found ≡ value = cc in same)),
)
value_is value (Some (Err at)) = ((λ so. cc), (λ so. cc))

any_at : {A : Type 0} (passes : A → Bool) (xs : List A) (k : ℕ) (default : A) → k < length xs
    → passes (get_or xs k default) ≡ true → list_any passes xs ≡ true
any_at passes [] k default below is = absurd (omega (arith, below))
any_at passes (x ∷ xs) zero default below is = ap (λ b. b || list_any passes xs) is
any_at passes (x ∷ xs) (suc k) default below is =
    ap (λ b. passes x || b) (any_at passes xs k default (omega (arith, below)) is) ∙ or_true (passes x)
  where
    or_true : (b : Bool) → (b || true) ≡ true
    or_true true = refl
    or_true false = refl

one_agrees : (start : Start) (entries : List Entry) (held : List HeldPcr) (pcr : HeldPcr) → is_held held pcr.bank ≡ true
    → (agrees (map (replayed start entries) (held_banks held)) pcr ≡ true)
    ↔ (slice_get (outcomes pcr.bank start entries) pcr.pcr ≡ Some (Ok (value_of pcr.value)))
unfolding agrees
one_agrees start entries held pcr is =
    let led = ap (option_and_then (λ (found : List Outcome). slice_get found pcr.pcr))
    (its_outcomes start entries pcr.bank (held_banks held) (its_bank_is_held pcr.bank held is)) in
    let so = value_is (value_of pcr.value) (led_to (map (replayed start entries) (held_banks held)) pcr) in
    ((λ agree. sym led ∙ so.0 agree), (λ leads. so.1 (led ∙ leads)))

pub agree_by_verdict : AgreeByVerdict
agree_by_verdict start entries held =
    let replays = map (replayed start.start entries) (held_banks held) in
    let here : (k : ℕ) (default : HeldPcr) → k < length held → is_held held (get_or held k default).bank ≡ true =
    λ k default below. any_at (λ pcr. is_same_bank pcr.bank (get_or held k default).bank) held k default below
    (same_itself (get_or held k default).bank) in (
      (λ so k default below. (one_agrees start.start entries held (get_or held k default) (here k default below)).0
          (AllPass-from_list_all (agrees replays) held (sym (all_agree replays held) ∙ so) k default below)),
      (λ agree. all_agree replays held ∙ list_all-from_AllPass (agrees replays) held
          (λ k default below. (one_agrees start.start entries held (get_or held k default) (here k default below)).1
          (agree k default below))),
    )

-- No PCR disagrees exactly if all agree.
none_disagrees : (replays : List BankOutcomes) (held : List HeldPcr)
    → (disagreeing held replays == 0) ≡ list_all (agrees replays) held
none_disagrees replays [] = refl
none_disagrees replays (pcr ∷ held) = decide (none_disagrees replays held) (agrees replays pcr) refl
  where
    decide : (disagreeing held replays == 0) ≡ list_all (agrees replays) held → (a : Bool) → agrees replays pcr ≡ a
        → (disagreeing (pcr ∷ held) replays == 0) ≡ list_all (agrees replays) (pcr ∷ held)
    decide rest true is =
        ap (λ n. n == 0) (count_none (λ it. not (agrees replays it)) pcr held (ap not is)) ∙ rest
        ∙ sym (ap (λ b. b && list_all (agrees replays) held) is)
    decide rest false other =
        count_one (λ it. not (agrees replays it)) pcr held (ap not other)
        ∙ sym (ap (λ b. b && list_all (agrees replays) held) other)

-- A comparison is that PCRs agree exactly if none disagrees.
abbrev IsCounted : List HeldPcr → Comparison → Type 0
IsCounted held comparison = is_agreement comparison ≡ (disagreeing held comparison.replays == 0)

counted : (entries : List Entry) (held : List HeldPcr) (start : KnownStart)
    → IsCounted held (compared_at entries held start)
counted entries held start =
    let replays = map (replayed start.start entries) (held_banks held) in
    all_agree replays held ∙ sym (none_disagrees replays held)

-- The least of two numbers is 0 exactly if one of them is.
least_none : (a b : ℕ) → cond (nat_lt b a) (b == 0) (a == 0) ≡ ((a == 0) || (b == 0))
least_none a b = grind (arith, nat_tests)

nearer_counted : (held : List HeldPcr) (one other : Comparison) → IsCounted held one → IsCounted held other
    → IsCounted held (nearer held one other)
nearer_counted held one other first second =
    either (nat_lt (disagreeing held other.replays) (disagreeing held one.replays))
  where
    either : (less : Bool) → IsCounted held (cond less other one)
    either true = second
    either false = first

nearer_agrees : (held : List HeldPcr) (one other : Comparison) → IsCounted held one → IsCounted held other
    → is_agreement (nearer held one other) ≡ (is_agreement one || is_agreement other)
nearer_agrees held one other first second =
    either (nat_lt (disagreeing held other.replays) (disagreeing held one.replays))
    ∙ least_none (disagreeing held one.replays) (disagreeing held other.replays)
    ∙ ap₂ (λ a b. a || b) (sym first) (sym second)
  where
    either : (less : Bool) → is_agreement (cond less other one)
        ≡ cond less (disagreeing held other.replays == 0) (disagreeing held one.replays == 0)
    either true = second
    either false = first

-- The nearest of three agrees exactly if one of them does.
nearest_agrees : (held : List HeldPcr) (one two three : Comparison) → IsCounted held one → IsCounted held two
    → IsCounted held three → is_agreement (nearer held (nearer held one two) three)
    ≡ (is_agreement one || (is_agreement two || (is_agreement three || false)))
nearest_agrees held one two three first second third =
    nearer_agrees held (nearer held one two) three (nearer_counted held one two first second) third
    ∙ ap (λ b. b || is_agreement three) (nearer_agrees held one two first second)
    ∙ grouped (is_agreement one) (is_agreement two) (is_agreement three)
  where
    grouped : (a b c : Bool) → ((a || b) || c) ≡ (a || (b || (c || false)))
    grouped true b c = refl
    grouped false true c = refl
    grouped false false true = refl
    grouped false false false = refl

-- The verdict is agreement exactly if the events lead to each PCR by one of the starts that are tried.
one_of_three : (entries : List Entry) (held : List HeldPcr) → is_agreement (nearest entries held)
    ≡ list_any (λ locality. is_agreement (compared_at entries held (assumed_start locality))) (0 ∷ 3 ∷ 4 ∷ [])
one_of_three entries held =
    nearest_agrees held (compared_at entries held (assumed_start 0)) (compared_at entries held (assumed_start 3))
    (compared_at entries held (assumed_start 4)) (counted entries held (assumed_start 0))
    (counted entries held (assumed_start 3)) (counted entries held (assumed_start 4))

-- Whether a start is stated has no part in that.
abbrev agree_so : List Entry → List HeldPcr → Start → Bool
agree_so entries held start = is_agreement (compared_at entries held (record { start = start; is_stated = false }))

one_is_tried : (locality : Option ℕ) (entries : List Entry) (held : List HeldPcr)
    → is_agreement (verdict_of locality entries held) ≡ list_any (agree_so entries held) (starts locality entries)
unfolding verdict_of
one_is_tried locality entries held = either (is_stated locality entries)
  where
    or_none : (b : Bool) → b ≡ (b || false)
    or_none true = refl
    or_none false = refl

    either : (stated : Bool)
        → is_agreement (cond stated (compared_at entries held (known_start locality entries)) (nearest entries held))
        ≡ list_any (agree_so entries held)
        (cond stated (start_by locality entries ∷ []) (start_at 0 ∷ start_at 3 ∷ start_at 4 ∷ []))
    either true = or_none (agree_so entries held (start_by locality entries))
    either false = one_of_three entries held

pub agrees_at_one : (locality : Option ℕ) (entries : List Entry) (held : List HeldPcr) (comparison : Comparison)
    → comparison ≡ verdict_of locality entries held
    → (is_agreement comparison ≡ true) ↔ AgreeAtOne locality entries held
agrees_at_one locality entries held comparison is =
    let all : List Start = starts locality entries in
    let same : is_agreement comparison ≡ list_any (agree_so entries held) all =
    ap is_agreement is ∙ one_is_tried locality entries held in (
      (λ so. by_test (λ start. (agree_by_verdict (record { start = start; is_stated = false }) entries held).0) all
          (Any-from_list_any (agree_so entries held) all (sym same ∙ so))),
      (λ agree. same ∙ list_any-from_Any (agree_so entries held) all
          (by_test (λ start. (agree_by_verdict (record { start = start; is_stated = false }) entries held).1) all agree)),
    )
  where
    by_test : {P Q : Start → Type 0} → ((start : Start) → P start → Q start) → (all : List Start) → Any P all → Any Q all
    by_test so all (k, start, below, is, holds) = (k, start, below, is, so start holds)
