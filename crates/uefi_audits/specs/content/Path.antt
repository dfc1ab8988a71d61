-- Device paths in the data of events.
use Rattle.std.specs.Prelude.{ℕ, List, Option}
use Rattle.uefi_path.specs.Node.{Node, joined}
use Rattle.uefi_path.specs.Path.{IsPath}
use Rattle.tcg_event.specs.Reading.{Reads}

-- The bytes are the nodes of this path, or of none.
abbrev pub ReadsNodes : List ℕ → Option (List Node) → Type 0
ReadsNodes = Reads IsPath joined
