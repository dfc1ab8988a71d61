-- Requests that matches don't ask for.
use Rattle.std.proofs.Common.{◌≡◌, ℕ, List, codes, ap, arith, slice_index}
use Rattle.std.specs.Prelude.{Option, None, Some}
use Rattle.clap.specs.Words.{first_value}
use Rattle.clap.specs.declared.parser.matches.Found.{Found}
use Rattle.pcr_replay.specs.declared.bank.Bank.{Bank}
use Rattle.uefi_audit.specs.CommandLine.{AskForNoRequest, AsksBank, AsksCompared, AsksQuote}
use Rattle.uefi_audit.specs.declared.request.AskedQuote.{AskedQuote}
use Rattle.uefi_audit.specs.declared.request.Compared.{Compared}
use Rattle.uefi_audit.specs.declared.request.Request.TheVariants.{Events, Replay, Verify, Diff, Check}

-- Where `--bank` names no bank, `replay` asks for nothing.
pub no_replay : (found : Found) → ((bank : Option Bank) → AsksBank found (codes "bank") bank → ⊥) → AskForNoRequest (codes "replay") found
no_replay found none (Events logs format) asked = let other = ap (λ name. slice_index name 0) asked.0 in absurd (omega arith)
no_replay found none (Replay logs bank locality format) asked = none bank asked.2
no_replay found none (Verify verification) asked = let other = ap (λ name. slice_index name 0) asked.0 in absurd (omega arith)
no_replay found none (Diff old new compared) asked = let other = ap (λ name. slice_index name 0) asked.0 in absurd (omega arith)
no_replay found none (Check logs covered format) asked = let other = ap (λ name. slice_index name 0) asked.0 in absurd (omega arith)

-- Nothing is asked for of two logs then, and so `diff` asks for nothing.
pub none_compared : (found : Found) → ((bank : Option Bank) → AsksBank found (codes "bank") bank → ⊥)
    → (compared : Compared) → AsksCompared found compared → ⊥
none_compared found none compared asked = none compared.bank asked.bank

pub no_diff : (found : Found) → ((compared : Compared) → AsksCompared found compared → ⊥) → AskForNoRequest (codes "diff") found
no_diff found none (Events logs format) asked = let other = ap (λ name. slice_index name 0) asked.0 in absurd (omega arith)
no_diff found none (Replay logs bank locality format) asked = let other = ap (λ name. slice_index name 0) asked.0 in absurd (omega arith)
no_diff found none (Verify verification) asked = let other = ap (λ name. slice_index name 0) asked.0 in absurd (omega arith)
no_diff found none (Diff old new compared) asked = none compared asked.3
no_diff found none (Check logs covered format) asked = let other = ap (λ name. slice_index name 0) asked.0 in absurd (omega arith)

-- Where `--quote-hash` names no hash function, no quote is asked for.
pub no_quote : (found : Found) (file : List ℕ) → first_value found (codes "quote") ≡ Some file
    → ((hash : Option Bank) → AsksBank found (codes "quote-hash") hash → ⊥) → (quote : Option AskedQuote)
    → AsksQuote found quote → ⊥
no_quote found file there none None asked = cc
no_quote found file there none (Some quote) asked = none quote.hash asked.hash
