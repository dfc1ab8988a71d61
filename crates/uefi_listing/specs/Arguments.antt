-- The words of the command line that ask for a listing.
use Rattle.std.specs.Prelude.{◌≡◌, ◌⊎◌, ℕ, ◌^◌, ◌<◌, List, [], ◌∷◌, codes, Option, None, Some}
use Rattle.std.specs.Str.Parse.{IsNumeral, digits_value}
use Rattle.uefi_listing.specs.declared.command.Command.{Command}
use Rattle.uefi_listing.specs.declared.command.Command.TheVariants.{Path, Log1, Log2, Log2After, Config, Pci, Time, Map, Info}

-- The word is the number in decimal: one or more digits 0 to 9, and at most 2^64 - 1.
abbrev pub IsDecimal : List ℕ → ℕ → Type 0
IsDecimal word n = IsNumeral 10 word × (digits_value 10 word ≡ n) × (n < 2 ^ 64)

-- The word is the last entry of a log: `-` if there is none.
abbrev pub IsLastEntry : List ℕ → Option ℕ → Type 0
IsLastEntry word None = word ≡ codes "-"
IsLastEntry word (Some n) = IsDecimal word n

-- The words, after the program's name, ask for the command over the file of this name.
abbrev pub AskOver : Command → List ℕ → List (List ℕ) → Type 0
AskOver Path file words = words ≡ codes "path" ∷ file ∷ []
AskOver (Log1 last_entry) file words = (last : List ℕ) × (words ≡ codes "log1" ∷ file ∷ last ∷ []) × IsLastEntry last last_entry
AskOver (Log2 last_entry) file words = (last : List ℕ) × (words ≡ codes "log2" ∷ file ∷ last ∷ []) × IsLastEntry last last_entry
AskOver (Log2After last_entry) file words = (last : List ℕ) × (words ≡ codes "log2after" ∷ file ∷ last ∷ []) × IsLastEntry last last_entry
AskOver Config file words = words ≡ codes "config" ∷ file ∷ []
AskOver Pci file words = words ≡ codes "pci" ∷ file ∷ []
AskOver Time file words = words ≡ codes "time" ∷ file ∷ []
AskOver (Map stride) file words = (number : List ℕ) × (words ≡ codes "map" ∷ file ∷ number ∷ []) × IsDecimal number stride
AskOver (Info written) file words = (number : List ℕ) × (words ≡ codes "info" ∷ file ∷ number ∷ []) × IsDecimal number written

-- They ask for the command, over some file.
abbrev pub Asks : Command → List (List ℕ) → Type 0
Asks command words = (file : List ℕ) × AskOver command file words

-- The words ask for no command.
abbrev pub AskForNothing : List (List ℕ) → Type 0
AskForNothing words = (command : Command) → Asks command words → ⊥

-- The name of a command that the program `uefi_boot` has now.
abbrev pub IsMoved : List ℕ → Type 0
IsMoved name = (name ≡ codes "option") ⊎ (name ≡ codes "pathtext") ⊎ (name ≡ codes "textpath")
