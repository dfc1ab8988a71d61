-- What a function appends to a text that makes the listing of a command.
use Rattle.std.specs.Prelude.{◌≡◌, ℕ, List, ◌++◌, string_bytes}
use Rattle.std.specs.declared.string.String.{String}
use Rattle.boot_listing.specs.declared.outcome.Outcome.{Outcome}

-- The string grew by a text that, with the outcome, is a listing.
abbrev pub AppendsListing : {A : Type 0} → (List ℕ → Outcome → Type 0) → String A → String A → Outcome → Type 0
AppendsListing IsListing old new outcome = (text : List ℕ) × IsListing text outcome × (string_bytes new ≡ string_bytes old ++ text)
