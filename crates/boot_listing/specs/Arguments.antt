-- The words of the command line.
use Rattle.std.specs.Prelude.{◌≡◌, ℕ, List, [], ◌∷◌, codes}
use Rattle.boot_listing.specs.declared.command.Command.{Command}
use Rattle.boot_listing.specs.declared.command.Command.TheVariants as command
use Rattle.boot_listing.specs.declared.command.Form.{Form}
use Rattle.boot_listing.specs.declared.command.Form.TheVariants.{Lines, Json}

abbrev pub name_of : Command → List ℕ
name_of command.List = codes "list"
name_of command.Option = codes "option"
name_of command.Text = codes "text"
name_of command.Path = codes "path"

-- The words, after the program's name, ask for the command in this form over this folder, file or text.
abbrev pub AskFor : Command → Form → List ℕ → List (List ℕ) → Type 0
AskFor command Lines operand words = words ≡ name_of command ∷ operand ∷ []
AskFor command Json operand words = words ≡ name_of command ∷ codes "--json" ∷ operand ∷ []

-- They ask for nothing.
abbrev pub AskForNothing : List (List ℕ) → Type 0
AskForNothing words = (command : Command) (form : Form) (operand : List ℕ) → AskFor command form operand words → ⊥
