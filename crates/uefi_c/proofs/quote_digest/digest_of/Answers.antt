use Rattle.std.proofs.Common.{◌∙◌, Bool, ap, arith, length, sym}
use Rattle.std.specs.Prelude.{◌&&◌}
use Rattle.std.proofs.lemmas.List.{length-set}
use Rattle.tpm_quote.specs.Views.{quote_of}
use Rattle.uefi_tcg.specs.Entries.{Contents}
use Rattle.pcr_replay.specs.BankReplays.{replayed}
use Rattle.pcr_replay.specs.Quotes.{is_quoted, quote_digest}
use Rattle.pcr_replay.specs.Replay.{is_active}
use Rattle.pcr_replay.specs.declared.bank.Bank.{Bank}
use Rattle.uefi_c.specs.declared.workspace.UefiWorkspace.{UefiWorkspace}
use Rattle.uefi_c.proofs.QuoteBanks.{all_replayed, one_fails, one_passes}
use Rattle.uefi_c.proofs.quote_digest.digest_of.Goals as goal
use Rattle.uefi_c.proofs.quote_digest.digest_of.Goals.{then-is_compared, else-is_compared}

pub loop-index-preserved : goal.loop-index-preserved
loop-index-preserved c =
    let test : Contents → Bank → Bool =
    λ contents bank. is_quoted (quote_of c.args.quote.now) bank && is_active bank contents.entries in
    let now = c.loop-index in
    elim c.if-is_compared.branch [
      | then-is_compared w ↦ record {
        replayed = λ contents has. rw (w.workspace-is, w.count-is) (
            one_passes (test contents) (replayed c.args.start.now contents.entries) now.workspace.banks now.count now.index
            w.replay_into.new.store
            (omega (arith, now.invariant.few, now.invariant.room, c.loop-index-test.true)) c.loop-index-test.true
            (sym (c.is_compared.ensures contents has) ∙ w.if-is_compared.true)
            (w.replay_into.ensures.outcomes contents has)
            (now.invariant.replayed contents has)
            );
        few = omega (arith, w.count-is, now.invariant.few);
        room = ap (λ (it : UefiWorkspace). length it.banks) w.workspace-is ∙ length-set now.workspace.banks now.count _ ∙ now.invariant.room;
      }
      | else-is_compared w ↦ record {
        replayed = λ contents has. rw (w.workspace-is, w.count-is) (
            one_fails (test contents) (replayed c.args.start.now contents.entries) now.workspace.banks now.count now.index c.loop-index-test.true
            (sym (c.is_compared.ensures contents has) ∙ w.if-is_compared.false) (now.invariant.replayed contents has)
            );
        few = omega (arith, w.count-is, now.invariant.few);
        room = rw w.workspace-is now.invariant.room;
      }
    ]

pub returns : goal.returns
returns c = λ contents has.
    c.quote_digest_in.ensures
    ∙ ap (λ banks. quote_digest c.args.hash banks (quote_of c.args.quote.now))
    (all_replayed (λ bank. is_quoted (quote_of c.args.quote.now) bank && is_active bank contents.entries)
    (replayed c.args.start.now contents.entries) c.loop-index.workspace.banks c.loop-index.count c.loop-index.index
    c.loop-index-test.false (c.loop-index.invariant.replayed contents has))
