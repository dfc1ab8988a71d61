-- What the values that `clap` found ask for.
use Rattle.std.specs.Prelude.{ℕ, ◌≡◌, ◌<◌, ◌^◌, List, map, codes, Bool, true, false, Option, None, Some, unwrap_or}
use Rattle.std.specs.Option.{option_map}
use Rattle.std.specs.Borrow.{Bor}
use Rattle.std.specs.Str.Parse.{IsNumeral, digits_value, without_leading_plus}
use Rattle.clap.specs.Words.{first_value, matched_of, one_text, raw_values}
use Rattle.clap.specs.declared.parser.matches.Found.{Found}
use Rattle.pcr_replay.specs.declared.bank.Bank.{Bank}
use Rattle.uefi_audits.specs.Naming.{bank_name}
use Rattle.uefi_audit.specs.declared.request.AskedCoverage.{AskedCoverage}
use Rattle.uefi_audit.specs.declared.request.AskedQuote.{AskedQuote}
use Rattle.uefi_audit.specs.declared.request.Compared.{Compared}
use Rattle.uefi_audit.specs.declared.request.Format.{Format}
use Rattle.uefi_audit.specs.declared.request.Format.TheVariants.{Text, Json}
use Rattle.uefi_tcg.specs.declared.log.LastEntry.{LastEntry}
use Rattle.uefi_tcg.specs.declared.log.LastEntry.TheVariants.{Unknown, At, Empty}
use Rattle.uefi_audit.specs.declared.request.Reading.{Reading}
use Rattle.uefi_audit.specs.declared.request.Request.{Request}
use Rattle.uefi_audit.specs.declared.request.Verification.{Verification}
use Rattle.uefi_audit.specs.declared.request.Request.TheVariants.{Events, Replay, Verify, Diff, Check}

-- The word is the number in decimal: one or more digits 0 to 9, and at most 2^64 - 1.
abbrev pub IsDecimal : List ℕ → ℕ → Type 0
IsDecimal word n = IsNumeral 10 word × (digits_value 10 word ≡ n) × (n < 2 ^ 64)

-- The last entry by the text of `--last-entry`: unknown without one, none by `none`, else a number.
abbrev pub NamesLastEntry : Option (List ℕ) → LastEntry → Type 0
NamesLastEntry word Unknown = word ≡ None
NamesLastEntry word Empty = word ≡ Some (codes "none")
NamesLastEntry word (At n) = (digits : List ℕ) × (word ≡ Some digits) × IsDecimal digits n

abbrev pub AsksLastEntry : Found → LastEntry → Type 0
AsksLastEntry found last_entry = NamesLastEntry (first_value found (codes "last-entry")) last_entry

-- Whether a flag was given, which `clap` keeps as a text.
abbrev pub FlagIs : Option (List ℕ) → Bool → Type 0
FlagIs text given = (text ≡ Some (codes "true") → given ≡ true) × (text ≡ Some (codes "false") → given ≡ false) × (text ≡ None → given ≡ false)

abbrev pub AsksFlag : Found → List ℕ → Bool → Type 0
AsksFlag found id given = FlagIs (one_text found id) given

-- The number that a text is in decimal, below this bound. It may begin with a plus sign.
abbrev pub IsNumberBelow : ℕ → List ℕ → ℕ → Type 0
IsNumberBelow bound text n = let digits = without_leading_plus text in IsNumeral 10 digits × (digits_value 10 digits ≡ n) × (n < bound)

-- The number by the text of `--max-rows`: none without one, else the number that it is, below 2^32.
abbrev pub NamesMaxRows : Option (List ℕ) → Option ℕ → Type 0
NamesMaxRows None rows = rows ≡ None
NamesMaxRows (Some text) (Some n) = IsNumberBelow (2 ^ 32) text n
NamesMaxRows (Some text) None = (n : ℕ) → IsNumberBelow (2 ^ 32) text n → ⊥

-- How many rows a table may have: 256 if no number is stated.
abbrev pub AsksMaxRows : Found → ℕ → Type 0
AsksMaxRows found rows = (stated : Option ℕ) × NamesMaxRows (one_text found (codes "max-rows")) stated × (rows ≡ unwrap_or stated 256)

-- How logs are read.
abbrev pub AsksReading : Found → Reading → Type 0
AsksReading found reading =
    AsksLastEntry found reading.last_entry × AsksFlag found (codes "allow-left-over") reading.allow_left_over
    × AsksMaxRows found reading.max_rows

-- The bank that an option names, if it is there.
abbrev pub AsksBank : Found → List ℕ → Option Bank → Type 0
AsksBank found id bank = first_value found id ≡ option_map bank_name bank

-- The format by `--json`.
abbrev pub is_json : Format → Bool
is_json Json = true
is_json Text = false

abbrev pub AsksFormat : Found → Format → Type 0
AsksFormat found format = AsksFlag found (codes "json") (is_json format)

-- The locality by the text of `--locality`: none without one, else the number that it is, below 256.
abbrev pub NamesLocality : Option (List ℕ) → Option ℕ → Type 0
NamesLocality None locality = locality ≡ None
NamesLocality (Some text) (Some n) = IsNumberBelow (2 ^ 8) text n
NamesLocality (Some text) None = (n : ℕ) → IsNumberBelow (2 ^ 8) text n → ⊥

abbrev pub AsksLocality : Found → Option ℕ → Type 0
AsksLocality found locality = NamesLocality (one_text found (codes "locality")) locality

-- The values of LOG.., in order.
abbrev pub AsksLogs : Found → List (Bor (List ℕ)) → Type 0
AsksLogs found logs = option_map raw_values (matched_of found (codes "logs")) ≡ Some (map (λ log. log.now) logs)

-- The format of `events`: JSON, unless `--text` is there.
abbrev pub is_text : Format → Bool
is_text Text = true
is_text Json = false

-- The quote that a log is compared with, if there is one.
pub record AsksItsQuote (found : Found) (asked : AskedQuote) : Type 0 where
  pub file : first_value found (codes "quote") ≡ Some asked.file.now
  pub nonce : first_value found (codes "nonce") ≡ option_map (λ text. text.now) asked.nonce
  pub any_nonce : AsksFlag found (codes "any-nonce") asked.any_nonce
  pub any_pcrs : AsksFlag found (codes "any-pcrs") asked.any_pcrs
  pub hash : AsksBank found (codes "quote-hash") asked.hash

abbrev pub AsksQuote : Found → Option AskedQuote → Type 0
AsksQuote found None = first_value found (codes "quote") ≡ None
AsksQuote found (Some asked) = AsksItsQuote found asked

-- What `verify` compares.
pub record AsksVerification (found : Found) (asked : Verification) : Type 0 where
  pub log : first_value found (codes "log") ≡ Some asked.log.now
  pub registers : first_value found (codes "registers") ≡ option_map (λ file. file.now) asked.registers
  pub quote : AsksQuote found asked.quote
  pub pcrs : first_value found (codes "pcrs") ≡ option_map (λ text. text.now) asked.pcrs
  pub locality : AsksLocality found asked.locality
  pub format : AsksFormat found asked.format

-- Which PCRs `check` takes as covered.
pub record AsksCoverage (found : Found) (asked : AskedCoverage) : Type 0 where
  pub pcrs : first_value found (codes "pcrs") ≡ option_map (λ text. text.now) asked.pcrs
  pub quote : first_value found (codes "quote") ≡ option_map (λ file. file.now) asked.quote

-- What of two logs `diff` compares.
pub record AsksCompared (found : Found) (asked : Compared) : Type 0 where
  pub bank : AsksBank found (codes "bank") asked.bank
  pub digests_only : AsksFlag found (codes "digests-only") asked.digests_only
  pub format : AsksFormat found asked.format

-- What the values of a command ask for, by its name.
abbrev pub Asks : List ℕ → Found → Request → Type 0
Asks name found (Events logs format) =
    (name ≡ codes "events") × AsksLogs found logs.now × AsksFlag found (codes "text") (is_text format)
Asks name found (Replay logs bank locality format) =
    (name ≡ codes "replay") × AsksLogs found logs.now × AsksBank found (codes "bank") bank × AsksLocality found locality
    × AsksFormat found format
Asks name found (Verify asked) = (name ≡ codes "verify") × AsksVerification found asked
Asks name found (Diff old new asked) =
    (name ≡ codes "diff") × (first_value found (codes "old") ≡ Some old.now)
    × (first_value found (codes "new") ≡ Some new.now) × AsksCompared found asked
Asks name found (Check logs covered format) =
    (name ≡ codes "check") × AsksLogs found logs.now × AsksCoverage found covered × AsksFormat found format

-- They ask for no request.
abbrev pub AskForNoRequest : List ℕ → Found → Type 0
AskForNoRequest name found = (request : Request) → Asks name found request → ⊥

-- They ask for nothing: for no way to read logs, or for no request.
abbrev pub AskForNothing : List ℕ → Found → Type 0
AskForNothing name found = (reading : Reading) → AsksReading found reading → AskForNoRequest name found
