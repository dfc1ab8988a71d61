-- What `uefi_audit verify` prints of a quote, and of whether a log leads to its digest.
use Rattle.std.specs.Prelude.{ℕ, Bool, true, false, List, [], ◌∷◌, ◌++◌, codes, Option, None, Some, Result, Ok, Err, if◌then◌else◌}
use Rattle.std.specs.Fmt.{decimal}
use Rattle.std.specs.Str.{bytes_eq}
use Rattle.hex.specs.Hex.{encode_lower}
use Rattle.tpm_quote.specs.Quote.{ClockInfo, Quote}
use Rattle.pcr_replay.specs.declared.bank.Bank.{Bank}
use Rattle.pcr_replay.specs.declared.fault.Undetermined.{Undetermined}
use Rattle.pcr_replay.specs.declared.quote.NoQuoteDigest.{NoQuoteDigest}
use Rattle.pcr_replay.specs.declared.quote.NoQuoteDigest.TheVariants as why
use Rattle.uefi_audits.specs.Naming.{bank_name, bank_of}
use Rattle.uefi_audits.specs.declared.verify.named.NamedPcr.{NamedPcr}
use Rattle.uefi_audits.specs.verify.Covered.{covered_pcrs}
use Rattle.uefi_audits.specs.verify.Quote.{QuoteJudgement, Received, is_met}
use Rattle.audit_text.specs.text.Agreement.{agree_line, ranges_after}
use Rattle.audit_text.specs.text.Remarks.{inactive_line, unsupported_line}
use Rattle.audit_text.specs.text.Undetermined.{undetermined_line}
use Rattle.shown.specs.Name.{shown_name}

-- A nonce in hex.
unfoldable pub nonce_text : List ℕ → List ℕ
nonce_text [] = codes "no nonce"
nonce_text (byte ∷ bytes) = codes "nonce 0x" ++ encode_lower (byte ∷ bytes)

-- The line of a quote's nonce, if it isn't the one that the quote was asked for with.
unfoldable pub unless_asked : List ℕ → Option (List ℕ) → List ℕ → List ℕ
unless_asked name None quoted = []
unless_asked name (Some asked) quoted =
    if bytes_eq quoted asked then []
    else shown_name name ++ (codes ": has " ++ (nonce_text quoted ++ (codes ", not " ++ (nonce_text asked ++ codes "\n"))))

abbrev pub other_nonce_line : List ℕ → Received → List ℕ
other_nonce_line name received = unless_asked name received.nonce received.quote.extra_data

-- A clock.
abbrev pub safe_text : Bool → List ℕ
safe_text true = codes "safe"
safe_text false = codes "not safe"

unfoldable pub clock_text : ClockInfo → List ℕ
clock_text clock_info =
    codes ", clock " ++ (decimal clock_info.clock ++ (codes " ms, " ++ (safe_text clock_info.safe ++ (codes ", reset count "
    ++ (decimal clock_info.reset_count ++ (codes ", restart count " ++ (decimal clock_info.restart_count ++ codes "\n")))))))

-- The line of a quote: the hash function of its digest, its nonce, and its clock.
unfoldable pub quote_line : List ℕ → Received → List ℕ
quote_line name received =
    shown_name name ++ (codes ": hash " ++ (bank_name received.hash ++ (codes ", "
    ++ (nonce_text received.quote.extra_data ++ clock_text received.quote.clock_info))))

-- The line of a quote that doesn't agree: the PCRs that it covers, its digest, and that of those to which the log leads.
unfoldable pub digests_text : List ℕ → List ℕ → ℕ → List ℕ
digests_text quoted found locality =
    codes ": the quote has the digest 0x" ++ (encode_lower quoted ++ (codes ", the log leads to 0x" ++ (encode_lower found
    ++ (codes " (PCR 0 starts at locality " ++ (decimal locality ++ codes ")\n")))))

abbrev pub differ_line : List ℕ → Quote → List ℕ → ℕ → List ℕ
differ_line name quote found locality =
    shown_name name ++ (codes ": differs: " ++ (ranges_after None (covered_pcrs quote) ++ digests_text quote.pcr_digest found locality))

-- The line of a quote that differs in its nonce alone: the PCRs that it covers, to which the log leads.
unfoldable pub nonce_differs_line : List ℕ → List NamedPcr → ℕ → List ℕ
nonce_differs_line name pcrs locality =
    shown_name name ++ (codes ": differs: the nonce, not " ++ (ranges_after None pcrs
    ++ (codes " (PCR 0 starts at locality " ++ (decimal locality ++ codes ")\n"))))

-- The line of a verdict; none if the log leads to no digest.
unfoldable pub by_digest : List ℕ → QuoteJudgement → Result (List ℕ) NoQuoteDigest → List ℕ
by_digest name judgement (Err why) = []
by_digest name judgement (Ok found) =
    if is_met judgement then agree_line name (covered_pcrs judgement.received.quote) judgement.start.start.locality
    else if judgement.digest_agrees
    then nonce_differs_line name (covered_pcrs judgement.received.quote) judgement.start.start.locality
    else differ_line name judgement.received.quote found judgement.start.start.locality

abbrev pub quote_verdict_line : List ℕ → QuoteJudgement → List ℕ
quote_verdict_line name judgement = by_digest name judgement judgement.digest

-- Why a log leads to no digest: a bank can't be replayed, or no event has a digest of it, or a PCR is undetermined.
abbrev pub no_bank_line : List ℕ → Option Bank → ℕ → List ℕ
no_bank_line name (Some bank) algorithm = inactive_line name bank
no_bank_line name None algorithm = unsupported_line name (algorithm ∷ [])

abbrev pub no_value_line : List ℕ → Option Bank → ℕ → ℕ → Undetermined → List ℕ
no_value_line name (Some bank) algorithm pcr at = undetermined_line name bank pcr at
no_value_line name None algorithm pcr at = unsupported_line name (algorithm ∷ [])

unfoldable pub no_digest_line : List ℕ → NoQuoteDigest → List ℕ
no_digest_line name (why.NoBank algorithm) = no_bank_line name (bank_of algorithm.0) algorithm.0
no_digest_line name (why.Undetermined algorithm pcr at) = no_value_line name (bank_of algorithm.0) algorithm.0 pcr.0 at

-- The line of a quote that covers no PCR, with which every log would agree.
unfoldable pub no_pcr_line : List ℕ → List ℕ
no_pcr_line name = shown_name name ++ codes ": covers no PCR\n"
