-- What `verify` prints of a quote, by the judgement of a log; and what follows where all is well.
use Rattle.std.proofs.Common.{◌≡◌, ◌∙◌, ℕ, List, [], ◌∷◌, ap, arith, length, refl, sym}
use Rattle.std.specs.Prelude.{◌==◌, ◌&&◌, ◌||◌, not, Bool, true, false, cond, Result, Ok, Err}
use Rattle.std.proofs.lemmas.Bool.{ne_eqb}
use Rattle.pcr_replay.specs.ReadLogs.{entries_in}
use Rattle.pcr_replay.specs.declared.quote.NoQuoteDigest.{NoQuoteDigest}
use Rattle.uefi_audits.specs.Ignored.{has_no_pcr, ignored_events}
use Rattle.uefi_audits.specs.Judgement.{judgement_of}
use Rattle.uefi_audits.specs.declared.judgement.Judgement.{Judgement}
use Rattle.uefi_audits.specs.declared.judgement.Judgement.TheVariants.{Accepted, NothingMeasured, LeftOver}
use Rattle.uefi_audits.specs.declared.verify.held.HeldPcr.{HeldPcr}
use Rattle.uefi_audits.specs.declared.verify.named.NamedPcr.{NamedPcr}
use Rattle.uefi_audits.specs.verify.Compared.{QuoteJudged}
use Rattle.uefi_audits.specs.verify.Coverage.{is_whole}
use Rattle.uefi_audits.specs.verify.Quote.{has_its_nonce, received_of}
use Rattle.uefi_audits.proofs.verify.QuoteVerdicts.{quote_agrees, received_is}
use Rattle.uefi_audit.specs.Ends.{worse}
use Rattle.uefi_audit.specs.Judged.{judgement_messages}
use Rattle.uefi_audit.specs.Printed.{Printed}
use Rattle.uefi_audit.specs.QuoteCheck.{QuoteIsMet, by_its_digest, checked_by_judgement, judged_on, quote_checked, unless_empty, unless_uncovered, with_registers}
use Rattle.uefi_audit.specs.declared.failure.Status.{Status}
use Rattle.uefi_audit.specs.declared.failure.Status.TheVariants.{Well, Differs, Unjudged, Unread}
use Rattle.uefi_audit.specs.declared.log_file.LogFile.{LogFile}
use Rattle.uefi_audit.specs.declared.quote_check.QuoteCheck.{QuoteCheck}

-- What follows from the judgement of the log, and the messages on it.
pub judged_is : (allow_left_over : Bool) (file : LogFile) (check : QuoteCheck) (judgement : Judgement) (messages : List ℕ)
    (printed : Printed) → judgement ≡ judgement_of allow_left_over file.read → messages ≡ judgement_messages file judgement
    → printed ≡ checked_by_judgement judgement messages file check → printed ≡ quote_checked allow_left_over file check
judged_is allow_left_over file check judgement messages printed judged said is =
    is ∙ ap (λ before. checked_by_judgement judgement before file check) said
    ∙ ap (λ it. checked_by_judgement it (judgement_messages file it) file check) judged

-- The digest and the nonce of a quote are those that they have to be, and it covers what it has to.
record AreMet (judged : QuoteJudged) : Type 0 where
  digest : judged.judgement.digest_agrees ≡ true
  nonce : has_its_nonce judged.judgement.received ≡ true
  coverage : is_whole judged.covering ≡ true

first_is_well : (one other : Status) → worse one other ≡ Well → one ≡ Well
first_is_well Well other well = refl
first_is_well Differs Well well = cc
first_is_well Differs Differs well = cc
first_is_well Differs Unjudged well = cc
first_is_well Differs Unread well = cc
first_is_well Unjudged Well well = cc
first_is_well Unjudged Differs well = cc
first_is_well Unjudged Unjudged well = cc
first_is_well Unjudged Unread well = cc
first_is_well Unread other well = cc

both_met : (odd agrees nonce : Bool) → cond (odd || not (agrees && nonce)) Differs Well ≡ Well
    → (agrees ≡ true) × (nonce ≡ true)
both_met true agrees nonce well = (cc, cc)
both_met false true true well = (refl, refl)
both_met false true false well = (cc, cc)
both_met false false nonce well = (cc, cc)

whole : (covered missing : List NamedPcr) (pcr : NamedPcr) (others : List NamedPcr) → pcr ∷ others ≡ covered → [] ≡ missing
    → (not (length covered == 0) && (length missing == 0)) ≡ true
whole [] missing pcr others some none = cc
whole (one ∷ covered) [] pcr others some none =
    ap (λ it. not it && true) (ne_eqb (length (one ∷ covered)) 0 (λ so. omega (arith, so)))
whole (one ∷ covered) (first ∷ missing) pcr others some none = cc

beside : (pcrs : List HeldPcr) (file : LogFile) (check : QuoteCheck) (quote : Printed)
    → (with_registers pcrs file check quote).status ≡ Well → quote.status ≡ Well
unfolding with_registers
beside [] file check quote well = well
beside (pcr ∷ pcrs) file check quote well = first_is_well quote.status _ well

-- Where the status of a quote of some PCRs is that all is well, none is missing.
covered : (missing : List NamedPcr) (pcr : NamedPcr) (others : List NamedPcr) (before : List ℕ) (file : LogFile)
    (check : QuoteCheck) (judged : QuoteJudged) → pcr ∷ others ≡ judged.covering.covered → missing ≡ judged.covering.missing
    → (unless_uncovered missing before file check judged).status ≡ Well → AreMet judged
unfolding unless_uncovered
covered [] pcr others before file check judged some none well =
    let both = both_met (has_no_pcr (ignored_events (entries_in file.read))) judged.judgement.digest_agrees
    (has_its_nonce judged.judgement.received) (beside check.registers.pcrs.now file check _ well) in record {
      digest = both.0;
      nonce = both.1;
      coverage = whole judged.covering.covered judged.covering.missing pcr others some none;
    }
covered (one ∷ missing) pcr others before file check judged some none well = absurd (let so : Unjudged ≡ Well = well in cc)

some_covered : (pcrs : List NamedPcr) (before : List ℕ) (file : LogFile) (check : QuoteCheck) (judged : QuoteJudged)
    → pcrs ≡ judged.covering.covered → (unless_empty pcrs before file check judged).status ≡ Well → AreMet judged
unfolding unless_empty
some_covered [] before file check judged some well = absurd (let so : Unjudged ≡ Well = well in cc)
some_covered (pcr ∷ others) before file check judged some well =
    covered judged.covering.missing pcr others before file check judged some refl well

with_digest : (digest : Result (List ℕ) NoQuoteDigest) (before : List ℕ) (file : LogFile) (check : QuoteCheck)
    (judged : QuoteJudged) → (by_its_digest digest before file check judged).status ≡ Well → AreMet judged
unfolding by_its_digest
with_digest (Err why) before file check judged well = absurd (let so : Unjudged ≡ Well = well in cc)
with_digest (Ok digest) before file check judged well =
    some_covered judged.covering.covered before file check judged refl well

accepted : (judgement : Judgement) (before : List ℕ) (file : LogFile) (check : QuoteCheck)
    → (checked_by_judgement judgement before file check).status ≡ Well → AreMet (judged_on file check)
unfolding checked_by_judgement
accepted Accepted before file check well =
    with_digest (judged_on file check).judgement.digest before file check (judged_on file check) well
accepted NothingMeasured before file check well = absurd (let so : Unjudged ≡ Well = well in cc)
accepted LeftOver before file check well = absurd (let so : Unjudged ≡ Well = well in cc)

-- The quote has its nonce, the log leads to its digest, and it covers what is asked for.
pub quote_is_met : (allow_left_over : Bool) (file : LogFile) (check : QuoteCheck)
    → (quote_checked allow_left_over file check).status ≡ Well → QuoteIsMet file check
quote_is_met allow_left_over file check well =
    let judgement = judgement_of allow_left_over file.read in
    let met = accepted judgement (judgement_messages file judgement) file check well in
    let received = received_of check.received in
    let entries = entries_in file.read in
    let locality = check.registers.locality in record {
      nonce = sym (ap has_its_nonce (received_is locality entries received)) ∙ met.nonce;
      digest = (quote_agrees locality entries received (judged_on file check).judgement refl).0 met.digest;
      coverage = met.coverage;
    }
