-- The verdict on a quote, by what was replayed.
use Rattle.std.proofs.Common.{◌≡◌, ◌∙◌, List, ℕ, [], ◌∷◌, ap, refl, sym}
use Rattle.std.specs.Prelude.{◌||◌, ◌↔◌, Bool, true, false, cond, Option, Result, Ok, Err}
use Rattle.std.specs.List.{Any, list_any}
use Rattle.std.proofs.lemmas.List.Folds.{Any-from_list_any, list_any-from_Any}
use Rattle.std.proofs.lemmas.Slice.Eq.{bytes_eq-Decides}
use Rattle.uefi_tcg.specs.Entries.{Entry}
use Rattle.pcr_replay.specs.declared.quote.NoQuoteDigest.{NoQuoteDigest}
use Rattle.pcr_replay.specs.declared.start.Start.{Start}
use Rattle.pcr_replay.specs.Quotes.{digest_at}
use Rattle.pcr_replay.specs.Start.{start_at}
use Rattle.uefi_audits.specs.KnownStart.{assumed_start, is_stated, known_start, start_by}
use Rattle.uefi_audits.specs.declared.known_start.KnownStart.{KnownStart}
use Rattle.uefi_audits.specs.verify.Quote.{QuoteJudgement, QuoteAgrees, Received, agreeing, is_digest, judged_at, quote_verdict, tried}
use Rattle.uefi_audits.specs.verify.Verdict.{starts}

-- The verdict at the start that is stated, and of three that are tried.
pub stated_is : (locality : Option ℕ) (entries : List Entry) (received : Received) (start : KnownStart)
    (judgement : QuoteJudgement) → start ≡ known_start locality entries → start.is_stated ≡ true
    → judgement ≡ judged_at entries received start → judgement ≡ quote_verdict locality entries received
unfolding quote_verdict
stated_is locality entries received start judgement known stated is =
    let so : is_stated locality entries ≡ true = sym (ap (λ it. it.is_stated) known) ∙ stated in
    is ∙ ap (judged_at entries received) known
    ∙ sym (ap (λ it. cond it (judged_at entries received (known_start locality entries)) (tried entries received)) so)

pub tried_is : (locality : Option ℕ) (entries : List Entry) (received : Received) (start : KnownStart)
    (judgement : QuoteJudgement) → start ≡ known_start locality entries → start.is_stated ≡ false
    → judgement ≡ tried entries received → judgement ≡ quote_verdict locality entries received
unfolding quote_verdict
tried_is locality entries received start judgement known unstated is =
    let so : is_stated locality entries ≡ false = sym (ap (λ it. it.is_stated) known) ∙ unstated in
    is ∙ sym (ap (λ it. cond it (judged_at entries received (known_start locality entries)) (tried entries received)) so)

-- It agrees exactly if it does at one of the starts.
abbrev pub agrees_so : List Entry → Received → Start → Bool
agrees_so entries received start = is_digest received.quote.pcr_digest (digest_at received.hash entries received.quote start)

agreeing_agrees : (one other : QuoteJudgement) → (agreeing one other).digest_agrees ≡ (one.digest_agrees || other.digest_agrees)
agreeing_agrees one other = either one.digest_agrees refl other.digest_agrees refl
  where
    either : (a : Bool) → one.digest_agrees ≡ a → (b : Bool) → other.digest_agrees ≡ b
        → (agreeing one other).digest_agrees ≡ (one.digest_agrees || other.digest_agrees)
    either true first b second = simp first refl
    either false first true second = simp (first, second) refl
    either false first false second = simp (first, second) refl

of_three : (entries : List Entry) (received : Received)
    → (tried entries received).digest_agrees ≡ list_any (agrees_so entries received) (start_at 0 ∷ start_at 3 ∷ start_at 4 ∷ [])
of_three entries received =
    agreeing_agrees (agreeing (judged_at entries received (assumed_start 0)) (judged_at entries received (assumed_start 3)))
    (judged_at entries received (assumed_start 4))
    ∙ ap (λ b. b || agrees_so entries received (start_at 4))
    (agreeing_agrees (judged_at entries received (assumed_start 0)) (judged_at entries received (assumed_start 3)))
    ∙ grouped (agrees_so entries received (start_at 0)) (agrees_so entries received (start_at 3)) (agrees_so entries received (start_at 4))
  where
    grouped : (a b c : Bool) → ((a || b) || c) ≡ (a || (b || (c || false)))
    grouped true b c = refl
    grouped false true c = refl
    grouped false false true = refl
    grouped false false false = refl

pub agrees_at_one : (locality : Option ℕ) (entries : List Entry) (received : Received)
    → (quote_verdict locality entries received).digest_agrees ≡ list_any (agrees_so entries received) (starts locality entries)
unfolding quote_verdict
agrees_at_one locality entries received = either (is_stated locality entries)
  where
    or_none : (b : Bool) → b ≡ (b || false)
    or_none true = refl
    or_none false = refl

    either : (stated : Bool)
        → (cond stated (judged_at entries received (known_start locality entries)) (tried entries received)).digest_agrees
        ≡ list_any (agrees_so entries received)
        (cond stated (start_by locality entries ∷ []) (start_at 0 ∷ start_at 3 ∷ start_at 4 ∷ []))
    either true = or_none (agrees_so entries received (start_by locality entries))
    either false = of_three entries received

-- The verdict is on the quote that was received.
agreeing_received : (one other : QuoteJudgement) (received : Received) → one.received ≡ received → other.received ≡ received
    → (agreeing one other).received ≡ received
agreeing_received one other received here there = either one.digest_agrees other.digest_agrees
  where
    either : (a b : Bool) → (cond a one (cond b other one)).received ≡ received
    either true b = here
    either false true = there
    either false false = here

pub received_is : (locality : Option ℕ) (entries : List Entry) (received : Received)
    → (quote_verdict locality entries received).received ≡ received
unfolding quote_verdict
received_is locality entries received = either (is_stated locality entries)
  where
    either : (stated : Bool)
        → (cond stated (judged_at entries received (known_start locality entries)) (tried entries received)).received ≡ received
    either true = refl
    either false = agreeing_received
        (agreeing (judged_at entries received (assumed_start 0)) (judged_at entries received (assumed_start 3)))
        (judged_at entries received (assumed_start 4)) received
        (agreeing_received (judged_at entries received (assumed_start 0)) (judged_at entries received (assumed_start 3)) received refl refl)
        refl

-- A digest is this one exactly if the tests say so.
is_digest_so : (digest : List ℕ) (found : Result (List ℕ) NoQuoteDigest) → (is_digest digest found ≡ true) ↔ (found ≡ Ok digest)
is_digest_so digest (Ok found) =
    let same = bytes_eq-Decides found digest in (
      (λ so. ap (λ bytes. Ok bytes) (same.0 so)),
      (λ so. same.1 (inner found digest so)),
    )
  where
    inner : (one other : List ℕ) → (let it : Result (List ℕ) NoQuoteDigest = Ok one in it ≡ Ok other) → one ≡ other
    inner one other so = cc
is_digest_so digest (Err why) = ((λ so. cc), (λ so. cc))

pub quote_agrees : (locality : Option ℕ) (entries : List Entry) (received : Received) (judgement : QuoteJudgement)
    → judgement ≡ quote_verdict locality entries received
    → (judgement.digest_agrees ≡ true) ↔ QuoteAgrees locality entries received
quote_agrees locality entries received judgement is =
    let all : List Start = starts locality entries in
    let same : judgement.digest_agrees ≡ list_any (agrees_so entries received) all =
    ap (λ it. it.digest_agrees) is ∙ agrees_at_one locality entries received in (
      (λ so. by_test (λ start. (is_digest_so received.quote.pcr_digest (digest_at received.hash entries received.quote start)).0) all
          (Any-from_list_any (agrees_so entries received) all (sym same ∙ so))),
      (λ agree. same ∙ list_any-from_Any (agrees_so entries received) all
          (by_test (λ start. (is_digest_so received.quote.pcr_digest (digest_at received.hash entries received.quote start)).1) all agree)),
    )
  where
    by_test : {P Q : Start → Type 0} → ((start : Start) → P start → Q start) → (all : List Start) → Any P all → Any Q all
    by_test so all (k, start, below, is, holds) = (k, start, below, is, so start holds)
