-- The digest that a TPM puts into a quote of its PCRs (TPM 2.0 Library, Part 2, TPMS_QUOTE_INFO): the hash of their values.
use Rattle.std.specs.Prelude.{ℕ, ◌==◌, ◌&&◌, Bool, List, [], ◌∷◌, ◌++◌, flat_map, map, slice_get, Option, None, Some, Result, Ok, Err, if◌then◌else◌}
use Rattle.std.specs.List.{filter, list_any}
use Rattle.std.specs.Option.{option_and_then}
use Rattle.tpm_quote.specs.PcrSelection.{PcrSelection, selected_pcrs}
use Rattle.tpm_quote.specs.Quote.{Quote}
use Rattle.uefi_tcg.specs.Entries.{Entry}
use Rattle.pcr_replay.specs.Banks.{algorithm_of, all_banks, hash_of}
use Rattle.pcr_replay.specs.BankReplays.{BankOutcomes, replayed}
use Rattle.pcr_replay.specs.Replay.{Outcome, is_active}
use Rattle.pcr_replay.specs.declared.bank.Bank.{Bank}
use Rattle.pcr_replay.specs.declared.quote.NoQuoteDigest.{NoQuoteDigest}
use Rattle.pcr_replay.specs.declared.quote.NoQuoteDigest.TheVariants.{NoBank, Undetermined}
use Rattle.pcr_replay.specs.declared.start.Start.{Start}

-- The PCRs that a quote is over, each with the algorithm of its bank: those of its selections, in order, and of a selection
-- ascending.
abbrev pub pcrs_in : PcrSelection → List (ℕ × ℕ)
pcrs_in selection = map (λ pcr. (selection.algorithm, pcr)) (selected_pcrs selection)

abbrev pub quoted_pcrs : List PcrSelection → List (ℕ × ℕ)
quoted_pcrs selections = flat_map pcrs_in selections

-- A bank has a selection in a quote.
abbrev pub is_quoted : Quote → Bank → Bool
is_quoted quote bank = list_any (λ selection. selection.algorithm == algorithm_of bank) quote.pcr_selections

-- What the PCRs of an algorithm's bank hold, if the bank is among these.
unfoldable pub outcomes_of_algorithm : ℕ → List BankOutcomes → Option (List Outcome)
outcomes_of_algorithm algorithm [] = None
outcomes_of_algorithm algorithm (found ∷ others) =
    if algorithm_of found.bank == algorithm then Some found.outcomes else outcomes_of_algorithm algorithm others

-- The value of one of them, or why it has none.
unfoldable pub value_of_outcome : ℕ → ℕ → Option Outcome → Result (List ℕ) NoQuoteDigest
value_of_outcome algorithm pcr None = Err (NoBank (record { 0 = algorithm }))
value_of_outcome algorithm pcr (Some (Ok value)) = Ok value
value_of_outcome algorithm pcr (Some (Err at)) = Err (Undetermined (record { 0 = algorithm }) (record { 0 = pcr }) at)

abbrev pub quoted_value : List BankOutcomes → ℕ × ℕ → Result (List ℕ) NoQuoteDigest
quoted_value banks pcr =
    value_of_outcome pcr.0 pcr.1 (option_and_then (λ outcomes. slice_get outcomes pcr.1) (outcomes_of_algorithm pcr.0 banks))

-- Their values, one after another; or why the first that has none has none.
abbrev pub followed_by : Result (List ℕ) NoQuoteDigest → Result (List ℕ) NoQuoteDigest → Result (List ℕ) NoQuoteDigest
followed_by (Err why) more = Err why
followed_by (Ok value) (Err why) = Err why
followed_by (Ok value) (Ok more) = Ok (value ++ more)

unfoldable pub quoted_values : List BankOutcomes → List (ℕ × ℕ) → Result (List ℕ) NoQuoteDigest
quoted_values banks [] = Ok []
quoted_values banks (pcr ∷ pcrs) = followed_by (quoted_value banks pcr) (quoted_values banks pcrs)

-- Their hash.
abbrev pub hashed : Bank → Result (List ℕ) NoQuoteDigest → Result (List ℕ) NoQuoteDigest
hashed hash (Ok values) = Ok (hash_of hash values)
hashed hash (Err why) = Err why

abbrev pub quote_digest : Bank → List BankOutcomes → Quote → Result (List ℕ) NoQuoteDigest
quote_digest hash banks quote = hashed hash (quoted_values banks (quoted_pcrs quote.pcr_selections))

-- The banks that have a selection in a quote and are active in a log, in the order of their algorithms' numbers.
abbrev pub quoted_banks : List Entry → Quote → List Bank
quoted_banks entries quote = filter (λ bank. is_quoted quote bank && is_active bank entries) all_banks

-- The digest of the PCRs that the events of a log lead to, in a TPM that started so.
abbrev pub digest_at : Bank → List Entry → Quote → Start → Result (List ℕ) NoQuoteDigest
digest_at hash entries quote start = quote_digest hash (map (replayed start entries) (quoted_banks entries quote)) quote
