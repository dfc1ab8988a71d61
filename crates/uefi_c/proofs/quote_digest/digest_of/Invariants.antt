use Rattle.std.proofs.Common.{◌≡◌, ◌≤◌, length}
use Rattle.std.specs.Prelude.{◌&&◌}
use Rattle.tpm_quote.specs.Views.{quote_of}
use Rattle.uefi_tcg.specs.Entries.{Contents}
use Rattle.uefi_tcg.specs.Logs.{HasContents}
use Rattle.pcr_replay.specs.BankReplays.{replayed}
use Rattle.pcr_replay.specs.Quotes.{is_quoted}
use Rattle.pcr_replay.specs.Replay.{is_active}
use Rattle.uefi_c.proofs.QuoteBanks.{AreReplayed}
use Rattle.uefi_c.proofs.quote_digest.digest_of.Given as goal

-- Those of the first banks that are quoted and active were replayed, and there is room for all.
abbrev pub invariant-loop-index : goal.invariant-loop-index
invariant-loop-index l = record {
  replayed : (contents : Contents) → HasContents l.log contents
      → AreReplayed (λ bank. is_quoted (quote_of l.quote) bank && is_active bank contents.entries)
      (replayed l.start contents.entries) l.workspace.banks l.count l.index;
  few : l.count ≤ l.index;
  room : length l.workspace.banks ≡ 5;
}
