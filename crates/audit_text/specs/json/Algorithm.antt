-- Hash algorithms as JSON.
use Rattle.std.specs.Prelude.{ℕ, List, Option, Some, None}
use Rattle.audit_text.specs.json.Json.{Json, number, string}
use Rattle.audit_text.specs.words.Names.{algorithm_name}

-- The name, or the number of what has none.
abbrev pub name_or_number : Option (List ℕ) → ℕ → Json
name_or_number (Some name) n = string name
name_or_number None n = number n

unfoldable pub algorithm_json : ℕ → Json
algorithm_json algorithm = name_or_number (algorithm_name algorithm) algorithm
