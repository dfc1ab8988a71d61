-- The listing that a command makes of bytes. What each command lists and refuses is in a file of its own.
use Rattle.std.specs.Prelude.{ℕ, List}
use Rattle.uefi_tcg.specs.v2.Header.{after_header, after_event}
use Rattle.uefi_listing.specs.declared.command.Command.{Command}
use Rattle.uefi_listing.specs.declared.command.Command.TheVariants as command
use Rattle.uefi_listing.specs.declared.listing.Outcome.{Outcome}
use Rattle.uefi_listing.specs.Path.{PathListing}
use Rattle.uefi_listing.specs.Log1.{Log1Listing}
use Rattle.uefi_listing.specs.Log2.{Log2Listing}
use Rattle.uefi_listing.specs.Config.{ConfigListing}
use Rattle.uefi_listing.specs.Map.{MapListing}
use Rattle.uefi_listing.specs.Pci.{PciListing}
use Rattle.uefi_listing.specs.Time.{TimeListing}
use Rattle.uefi_listing.specs.Info.{InfoListing}

-- The text and the outcome are those of the command over the bytes.
unfoldable pub Listing : Command → List ℕ → List ℕ → Outcome → Type 0
Listing command.Path bytes text outcome = PathListing bytes text outcome
Listing (command.Log1 last_entry) bytes text outcome = Log1Listing last_entry bytes text outcome
Listing (command.Log2 last_entry) bytes text outcome = Log2Listing after_header last_entry bytes text outcome
Listing (command.Log2After last_entry) bytes text outcome = Log2Listing after_event last_entry bytes text outcome
Listing command.Config bytes text outcome = ConfigListing bytes text outcome
Listing (command.Map stride) bytes text outcome = MapListing stride bytes text outcome
Listing command.Pci bytes text outcome = PciListing bytes text outcome
Listing command.Time bytes text outcome = TimeListing bytes text outcome
Listing (command.Info written) bytes text outcome = InfoListing written bytes text outcome
