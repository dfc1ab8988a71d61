-- What a log is compared with: PCRs of a file, or a quote.
use Rattle.std.specs.Prelude.{ℕ, ◌&&◌, Bool, List, filter, map, Option}
use Rattle.uefi_tcg.specs.Entries.{Entry}
use Rattle.uefi_audits.specs.declared.verify.compared.ComparedPcrs.{ComparedPcrs}
use Rattle.uefi_audits.specs.declared.verify.compared.ComparedQuote.{ComparedQuote}
use Rattle.uefi_audits.specs.declared.verify.held.HeldPcr.{HeldPcr}
use Rattle.uefi_audits.specs.declared.verify.selection.PcrSelection.{PcrSelection}
use Rattle.uefi_audits.specs.verify.Coverage.{Covering, covering, covering_of, is_whole}
use Rattle.uefi_audits.specs.verify.Covered.{covered_pcrs}
use Rattle.uefi_audits.specs.verify.Missing.{missing_pcrs}
use Rattle.uefi_audits.specs.verify.Named.{name_of}
use Rattle.uefi_audits.specs.verify.Quote.{QuoteJudgement, Received, is_met, quote_judgement_of, quote_verdict}
use Rattle.uefi_audits.specs.verify.Selection.{is_selected}
use Rattle.uefi_audits.specs.verify.Verdict.{Comparison, comparison_of, is_agreement, verdict_of}

-- Those PCRs of a file that are selected, the verdict on them, and what it covers.
pub record PcrsJudged : Type 0 where
  pub held : List HeldPcr
  pub comparison : Comparison
  pub covering : Covering

abbrev pub held_covering : List Entry → List HeldPcr → List PcrSelection → Covering
held_covering entries stated selections =
    covering entries (map name_of (filter (is_selected selections) stated)) (missing_pcrs selections (map name_of stated))

abbrev pub judged_pcrs : Option ℕ → List Entry → List HeldPcr → List PcrSelection → PcrsJudged
judged_pcrs locality entries stated selections = record {
  held = filter (is_selected selections) stated;
  comparison = verdict_of locality entries (filter (is_selected selections) stated);
  covering = held_covering entries stated selections;
}

-- The verdict on a quote, and what the quote covers.
pub record QuoteJudged : Type 0 where
  pub judgement : QuoteJudgement
  pub covering : Covering

abbrev pub quote_covering : List Entry → Received → List PcrSelection → Covering
quote_covering entries received selections =
    covering entries (covered_pcrs received.quote) (missing_pcrs selections (covered_pcrs received.quote))

abbrev pub judged_quote : Option ℕ → List Entry → Received → List PcrSelection → QuoteJudged
judged_quote locality entries received selections = record {
  judgement = quote_verdict locality entries received;
  covering = quote_covering entries received selections;
}

-- All agree, and what is asked for is covered.
abbrev pub pcrs_agree : PcrsJudged → Bool
pcrs_agree judged = is_agreement judged.comparison && is_whole judged.covering

abbrev pub quote_agrees : QuoteJudged → Bool
quote_agrees judged = is_met judged.judgement && is_whole judged.covering

-- What values of the code stand for.
abbrev pub judged_pcrs_of : {A : Type 0} → ComparedPcrs A → PcrsJudged
judged_pcrs_of compared = record {
  held = compared.held.items;
  comparison = comparison_of compared.verdict;
  covering = covering_of compared.coverage;
}

abbrev pub judged_quote_of : {A : Type 0} → ComparedQuote A → QuoteJudged
judged_quote_of compared = record {
  judgement = quote_judgement_of compared.verdict;
  covering = covering_of compared.coverage;
}
