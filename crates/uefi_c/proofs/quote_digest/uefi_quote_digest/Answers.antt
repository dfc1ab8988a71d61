use Rattle.std.proofs.Common.{◌≡◌, ◌∙◌, ap, subst, sym}
use Rattle.tpm_quote.specs.Views.{quote_of}
use Rattle.uefi_tcg.specs.Logs.{HasContents}
use Rattle.pcr_replay.specs.Quotes.{digest_at}
use Rattle.uefi_c.specs.QuoteDigest.{IsHash}
use Rattle.uefi_c.proofs.QuoteRead.{none_read, one_read, some_hash}
use Rattle.uefi_c.proofs.quote_digest.uefi_quote_digest.Goals as goal

pub returns-in-Err-clause-digest : goal.returns-in-Err-clause-digest
returns-in-Err-clause-digest c = λ has quote are bank is contents its.
    absurd (none_read c.args.message.now c.try_from.result c.in-Err.error c.try_from.ensures c.in-Err.is (has.0, has.1))

pub returns-in-Err-clause-status : goal.returns-in-Err-clause-status
returns-in-Err-clause-status c = λ has.
    absurd (none_read c.args.message.now c.try_from.result c.in-Err.error c.try_from.ensures c.in-Err.is (has.0, has.1))

pub returns-in-Err-clause-known : goal.returns-in-Err-clause-known
returns-in-Err-clause-known c = λ has.
    absurd (none_read c.args.message.now c.try_from.result c.in-Err.error c.try_from.ensures c.in-Err.is (has.0, has.1))

pub returns-in-Err-clause-size : goal.returns-in-Err-clause-size
returns-in-Err-clause-size c = λ has.
    absurd (none_read c.args.message.now c.try_from.result c.in-Err.error c.try_from.ensures c.in-Err.is (has.0, has.1))

pub returns-in-Err-clause-no_hash : goal.returns-in-Err-clause-no_hash
returns-in-Err-clause-no_hash c = λ has none.
    absurd (none_read c.args.message.now c.try_from.result c.in-Err.error c.try_from.ensures c.in-Err.is has)

pub returns-in_default-clause-digest : goal.returns-in_default-clause-digest
returns-in_default-clause-digest c = λ has quote are bank is contents its.
    let same = one_read c.args.message.now c.try_from.result c.in-Ok.quote c.try_from.ensures c.in-Ok.is quote are in
    absurd (c.in_default.not-Some bank
    (c.hash_of.ensures.only bank (subst (λ it. IsHash c.args.hash it bank) (sym same) is)))

pub returns-in_default-clause-status : goal.returns-in_default-clause-status
returns-in_default-clause-status c = λ has.
    let same = one_read c.args.message.now c.try_from.result c.in-Ok.quote c.try_from.ensures c.in-Ok.is has.0 has.1 in
    absurd (c.in_default.not-Some has.2.0
    (c.hash_of.ensures.only has.2.0 (subst (λ it. IsHash c.args.hash it has.2.0) (sym same) has.2.1)))

pub returns-in_default-clause-known : goal.returns-in_default-clause-known
returns-in_default-clause-known c = λ has.
    let same = one_read c.args.message.now c.try_from.result c.in-Ok.quote c.try_from.ensures c.in-Ok.is has.0 has.1 in
    absurd (c.in_default.not-Some has.2.0
    (c.hash_of.ensures.only has.2.0 (subst (λ it. IsHash c.args.hash it has.2.0) (sym same) has.2.1)))

pub returns-in_default-clause-size : goal.returns-in_default-clause-size
returns-in_default-clause-size c = λ has.
    let same = one_read c.args.message.now c.try_from.result c.in-Ok.quote c.try_from.ensures c.in-Ok.is has.0 has.1 in
    absurd (c.in_default.not-Some has.2.0
    (c.hash_of.ensures.only has.2.0 (subst (λ it. IsHash c.args.hash it has.2.0) (sym same) has.2.1)))

pub returns-clause-digest : goal.returns-clause-digest
returns-clause-digest c = λ so quote are bank is contents has.
    let same = one_read c.args.message.now c.try_from.result c.in-Ok.quote c.try_from.ensures c.in-Ok.is quote are in
    let hash : c.in-Some.hash ≡ bank =
    some_hash c.in-Some.hash bank (sym c.in-Some.is
    ∙ c.hash_of.ensures.only bank (subst (λ it. IsHash c.args.hash it bank) (sym same) is)) in
    let its = subst (λ log. HasContents log contents) (sym c.log_of-log.ensures) has in
    c.seen-found.ensures.digest ∙ c.digest_of.ensures contents its
    ∙ ap (λ it. digest_at it contents.entries (quote_of c.in-Ok.quote) c.start_of-start.result) hash
    ∙ ap (λ it. digest_at bank contents.entries it c.start_of-start.result) same
    ∙ ap (digest_at bank contents.entries quote) (c.start_of-start.ensures contents its)
