use Rattle.std.proofs.Common.{map, rules}
use Rattle.uefi_tcg.specs.LogViews.{entry_of}
use Rattle.uefi_audits.specs.verify.Quote.{quote_judgement_of, received_of}
use Rattle.uefi_audits.proofs.verify.QuoteVerdicts.{quote_agrees, stated_is, tried_is}
use Rattle.uefi_audits.proofs.verify.quote.QuoteVerdict.new.Goals as goal

pub returns-then-start-clause-verdict : goal.returns-then-start-clause-verdict
returns-then-start-clause-verdict g c =
    stated_is c.args.locality (map entry_of c.args.entries.now) (received_of c.args.received.now)
    c.of-start.result (quote_judgement_of c.of.result) c.of-start.ensures c.if-start.true (search rules)

pub returns-then-start-clause-agreement : goal.returns-then-start-clause-agreement
returns-then-start-clause-agreement g c =
    quote_agrees c.args.locality (map entry_of c.args.entries.now) (received_of c.args.received.now)
    (quote_judgement_of c.of.result) (returns-then-start-clause-verdict g c)

pub returns-clause-verdict : goal.returns-clause-verdict
returns-clause-verdict g c =
    tried_is c.args.locality (map entry_of c.args.entries.now) (received_of c.args.received.now)
    c.of-start.result (quote_judgement_of c.or-2.result) c.of-start.ensures c.if-start.false (search rules)

pub returns-clause-agreement : goal.returns-clause-agreement
returns-clause-agreement g c =
    quote_agrees c.args.locality (map entry_of c.args.entries.now) (received_of c.args.received.now)
    (quote_judgement_of c.or-2.result) (returns-clause-verdict g c)
