use Rattle.std.proofs.Common.{◌≡◌, ◌∙◌, ℕ, List, [], ap, map, rules, subst, sym}
use Rattle.std.specs.Prelude.{Err, Ok}
use Rattle.std.proofs.lemmas.Result.{err_from_is_err_and}
use Rattle.tpm_quote.specs.Views.{quote_of, selections_left}
use Rattle.pcr_replay.specs.Quotes.{hashed, quoted_pcrs, quoted_values}
use Rattle.pcr_replay.specs.declared.quote.NoQuoteDigest.{NoQuoteDigest}
use Rattle.pcr_replay.proofs.Quoting.{TakenSo, all_taken, more_taken, none_of_it}
use Rattle.pcr_replay.proofs.quote.quote_digest_in.Goals as goal

pub loop-selection-preserved : goal.loop-selection-preserved
loop-selection-preserved g c =
    let banks = map g.B.BankStore.holds c.args.banks.now in
    let all = quoted_pcrs (selections_left c.into_iter-selection-iterator.result) in
    let before = subst (λ left. TakenSo banks all (quoted_pcrs left) c.new-hasher.result c.loop-selection.hasher)
    c.in-Some.ensures.steps c.loop-selection.invariant in
    more_taken banks all _ _ c.new-hasher.result c.loop-selection.hasher c.take_selection.new.hasher before
    c.in_ok-take_selection.ensures

pub returns-in_err-take_selection : goal.returns-in_err-take_selection
returns-in_err-take_selection g c =
    let banks = map g.B.BankStore.holds c.args.banks.now in
    let all = quoted_pcrs (selections_left c.into_iter-selection-iterator.result) in
    let before = subst (λ left. TakenSo banks all (quoted_pcrs left) c.new-hasher.result c.loop-selection.hasher)
    c.in-Some.ensures.steps c.loop-selection.invariant in
    let same : all ≡ quoted_pcrs (quote_of c.args.quote.now).pcr_selections = search rules in
    let none : quoted_values banks all ≡ Err c.in_err-take_selection.field-0.0 =
    none_of_it banks all _ _ c.new-hasher.result c.loop-selection.hasher c.in_err-take_selection.field-0.0 before
    c.in_err-take_selection.ensures in
    let failed = err_from_is_err_and c.from_residual.result c.from_residual.ensures.1 in
    rw failed.1 (ap (λ (why : NoQuoteDigest). Err why) failed.2 ∙ sym (ap (hashed c.args.hash) none)
    ∙ ap (λ pcrs. hashed c.args.hash (quoted_values banks pcrs)) same)

pub returns : goal.returns
returns g c =
    let banks = map g.B.BankStore.holds c.args.banks.now in
    let all = quoted_pcrs (selections_left c.into_iter-selection-iterator.result) in
    let same : all ≡ quoted_pcrs (quote_of c.args.quote.now).pcr_selections = search rules in
    let done = all_taken banks all c.new-hasher.result c.loop-selection.hasher
    (subst (λ left. TakenSo banks all (quoted_pcrs left) c.new-hasher.result c.loop-selection.hasher) c.in-None.ensures.steps.0
    c.loop-selection.invariant) in
    ap (λ (value : List ℕ). Ok value)
    (c.finalize.ensures c.args.hash done.values (done.taken c.args.hash [] c.new-hasher.ensures))
    ∙ sym (ap (hashed c.args.hash) done.are) ∙ ap (λ pcrs. hashed c.args.hash (quoted_values banks pcrs)) same
