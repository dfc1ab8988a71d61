-- What `uefi_audit verify --quote --json` prints of a log: an object that says whether the log agrees with a quote.
use Rattle.std.specs.Prelude.{ℕ, Bool, List, [], ◌∷◌, ◌++◌, codes, map, Option, None, Some, Result, Ok, Err}
use Rattle.hex.specs.Hex.{encode_lower}
use Rattle.audit_text.specs.json.Json.{Json, null, boolean, number, string, array, object}
use Rattle.tpm_quote.specs.PcrSelection.{PcrSelection, selected_pcrs}
use Rattle.tpm_quote.specs.Quote.{ClockInfo}
use Rattle.pcr_replay.specs.declared.quote.NoQuoteDigest.{NoQuoteDigest}
use Rattle.uefi_audits.specs.Naming.{bank_name}
use Rattle.uefi_audits.specs.verify.Compared.{QuoteJudged, quote_agrees}
use Rattle.uefi_audits.specs.verify.Coverage.{is_whole}
use Rattle.uefi_audits.specs.verify.Quote.{QuoteJudgement, has_its_nonce}
use Rattle.audit_text.specs.json.Algorithm.{algorithm_json}
use Rattle.audit_text.specs.json.Coverage.{covered_json, not_covered_json, pcr_number, unless}
use Rattle.audit_text.specs.json.Line.{json_line}

-- A selection: the name of its bank's algorithm, and the PCRs, ascending.
unfoldable pub selection_json : PcrSelection → Json
selection_json selection =
    object (
    (codes "algorithm", algorithm_json selection.algorithm)
    ∷ (codes "pcrs", array (map pcr_number (selected_pcrs selection))) ∷ [])

-- A clock.
unfoldable pub clock_json : ClockInfo → Json
clock_json clock_info =
    object (
    (codes "clock", number clock_info.clock)
    ∷ (codes "reset_count", number clock_info.reset_count)
    ∷ (codes "restart_count", number clock_info.restart_count)
    ∷ (codes "safe", boolean clock_info.safe) ∷ [])

-- The digest to which a log leads, in hex; `null` if there is none.
abbrev pub digest_json : Result (List ℕ) NoQuoteDigest → Json
digest_json (Ok digest) = string (encode_lower digest)
digest_json (Err why) = null

-- Whether the nonce is the one that was asked for; `null` if any will do.
abbrev pub nonce_agrees_json : Option (List ℕ) → Bool → Json
nonce_agrees_json None agrees = null
nonce_agrees_json (Some asked) agrees = boolean agrees

-- A quote: its selections, its clock, its digest, whether the log leads to that, the digest's hash function, the digest to which the log leads, and the quote's nonce.
unfoldable pub quote_object : QuoteJudgement → Json
quote_object judgement =
    object (
    (codes "banks", array (map selection_json judgement.received.quote.pcr_selections))
    ∷ (codes "clock", clock_json judgement.received.quote.clock_info)
    ∷ (codes "digest", string (encode_lower judgement.received.quote.pcr_digest))
    ∷ (codes "digest_agrees", boolean judgement.digest_agrees)
    ∷ (codes "hash", string (bank_name judgement.received.hash))
    ∷ (codes "leads_to", digest_json judgement.digest)
    ∷ (codes "nonce", string (encode_lower judgement.received.quote.extra_data))
    ∷ (codes "nonce_agrees", nonce_agrees_json judgement.received.nonce (has_its_nonce judgement.received)) ∷ [])

-- What doesn't agree: the digest, the nonce, or what is covered.
unfoldable pub failed_json : QuoteJudged → Json
failed_json judged =
    array ((unless judged.judgement.digest_agrees (codes "digest")
    ++ unless (has_its_nonce judged.judgement.received) (codes "nonce")) ++ unless (is_whole judged.covering) (codes "coverage"))

-- The object: whether all agrees, the PCRs that are covered, what fails, the locality at which PCR 0 starts, the name of the log, the PCRs that aren't covered, and the quote.
unfoldable pub quote_json : List ℕ → QuoteJudged → Json
quote_json name judged =
    object (
    (codes "agrees", boolean (quote_agrees judged))
    ∷ (codes "covered", covered_json judged.covering.covered)
    ∷ (codes "failed", failed_json judged)
    ∷ (codes "locality", number judged.judgement.start.start.locality)
    ∷ (codes "log", string name)
    ∷ (codes "not_covered", not_covered_json judged.covering)
    ∷ (codes "quote", quote_object judged.judgement) ∷ [])

-- Its line.
abbrev pub quote_line : List ℕ → QuoteJudged → List ℕ
quote_line name judged = json_line (quote_json name judged)
