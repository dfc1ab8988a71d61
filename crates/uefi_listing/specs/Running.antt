-- What a run does to a writer whose bytes are known.
use Rattle.std.specs.Prelude.{ℕ, ◌<◌, List, length, take, Option}
use Rattle.std.specs.Io.KnownBytes.{Appends, Keeps}
use Rattle.uefi_listing.specs.declared.command.Command.{Command}
use Rattle.uefi_listing.specs.declared.listing.Outcome.{Outcome}
use Rattle.uefi_listing.specs.declared.run.RunError.{RunError}
use Rattle.uefi_listing.specs.declared.run.RunError.TheVariants.{Memory, Output}
use Rattle.uefi_listing.specs.Listing.{Listing}

-- The writer's bytes grew by the listing of that outcome.
abbrev pub WroteListing : Command → List ℕ → Option (List ℕ) → Option (List ℕ) → Outcome → Type 0
WroteListing command bytes old new outcome = (text : List ℕ) × Listing command bytes text outcome × Appends old new text

-- The writer's bytes grew by the first n bytes of a listing, and not by all of it.
abbrev pub WrotePart : Command → List ℕ → Option (List ℕ) → Option (List ℕ) → ℕ → Type 0
WrotePart command bytes old new n =
    (text : List ℕ) × (outcome : Outcome) × Listing command bytes text outcome × (n < length text) × Appends old new (take n text)

-- What a run did that ended with an error. Out of memory, it wrote nothing.
abbrev pub StoppedAt : Command → List ℕ → Option (List ℕ) → Option (List ℕ) → RunError → Type 0
StoppedAt command bytes old new Memory = Keeps old new
StoppedAt command bytes old new (Output n) = WrotePart command bytes old new n
