use Rattle.std.proofs.Common.{◌≡◌, ◌∙◌, ℕ, [], ap, map, rules, subst, sym}
use Rattle.std.specs.Prelude.{Err, Ok}
use Rattle.std.proofs.lemmas.Result.{err_from_is_err_and}
use Rattle.tpm_quote.specs.Views.{pcr_of, pcrs_left, selection_of}
use Rattle.pcr_replay.specs.Quotes.{pcrs_in, quoted_value, quoted_values}
use Rattle.pcr_replay.specs.Views.{value_of}
use Rattle.pcr_replay.specs.declared.quote.NoQuoteDigest.{NoQuoteDigest}
use Rattle.pcr_replay.specs.private.Quoting.{Takes}
use Rattle.pcr_replay.proofs.Quoting.{TakenSo, all_taken, more_taken, no_value, none_of_it, one_value}
use Rattle.pcr_replay.proofs.quote.take_selection.Goals as goal

pub loop-pcr-preserved : goal.loop-pcr-preserved
loop-pcr-preserved g c =
    let banks = map g.B.BankStore.holds c.args.banks.now in
    let algorithm = c.algorithm-algorithm.result.0 in
    let view : ℕ → ℕ × ℕ = λ pcr. (algorithm, pcr) in
    let all = map view (pcrs_left c.into_iter-pcr-iterator.result) in
    let before = subst (λ left. TakenSo banks all (map view left) c.args.hasher.now c.loop-pcr.hasher) c.in-Some.ensures.steps
    c.loop-pcr.invariant in
    let is : quoted_value banks (algorithm, pcr_of c.in-Some.pcr) ≡ Ok (value_of c.in_ok-value.value) = sym c.in_ok-value.ensures in
    let taken : Takes (value_of c.in_ok-value.value) c.loop-pcr.hasher c.update.new.self =
    subst (λ bytes. Takes bytes c.loop-pcr.hasher c.update.new.self) c.as_bytes.ensures c.update.ensures in
    more_taken banks all _ _ c.args.hasher.now c.loop-pcr.hasher c.update.new.self before
    (one_value banks (algorithm, pcr_of c.in-Some.pcr) _ c.loop-pcr.hasher c.update.new.self is taken)

pub returns-in_err-value : goal.returns-in_err-value
returns-in_err-value g c =
    let banks = map g.B.BankStore.holds c.args.banks.now in
    let algorithm = c.algorithm-algorithm.result.0 in
    let view : ℕ → ℕ × ℕ = λ pcr. (algorithm, pcr) in
    let all = map view (pcrs_left c.into_iter-pcr-iterator.result) in
    let same : all ≡ pcrs_in (selection_of c.args.selection.now) = search rules in
    let before = subst (λ left. TakenSo banks all (map view left) c.args.hasher.now c.loop-pcr.hasher) c.in-Some.ensures.steps
    c.loop-pcr.invariant in
    let none : quoted_values banks (pcrs_in (selection_of c.args.selection.now)) ≡ Err c.in_err-value.field-0.0 =
    subst (λ pcrs. quoted_values banks pcrs ≡ Err c.in_err-value.field-0.0) same
    (none_of_it banks all _ _ c.args.hasher.now c.loop-pcr.hasher c.in_err-value.field-0.0 before
    (no_value banks (algorithm, pcr_of c.in-Some.pcr) c.in_err-value.field-0.0 (sym c.in_err-value.ensures))) in
    let failed = err_from_is_err_and c.from_residual.result c.from_residual.ensures.1 in
    rw failed.1 (none ∙ ap (λ (why : NoQuoteDigest). Err why) (sym failed.2))

pub returns : goal.returns
returns g c =
    let banks = map g.B.BankStore.holds c.args.banks.now in
    let algorithm = c.algorithm-algorithm.result.0 in
    let view : ℕ → ℕ × ℕ = λ pcr. (algorithm, pcr) in
    let all = map view (pcrs_left c.into_iter-pcr-iterator.result) in
    let same : all ≡ pcrs_in (selection_of c.args.selection.now) = search rules in
    let done = subst (λ left. TakenSo banks all (map view left) c.args.hasher.now c.loop-pcr.hasher) c.in-None.ensures.steps.0
    c.loop-pcr.invariant in
    all_taken banks _ c.args.hasher.now c.loop-pcr.hasher
    (subst (λ pcrs. TakenSo banks pcrs [] c.args.hasher.now c.loop-pcr.hasher) same done)
