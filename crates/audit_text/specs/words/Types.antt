-- Types of events as they are shown.
use Rattle.std.specs.Prelude.{ℕ, List, ◌++◌, codes, false, Option, None, Some}
use Rattle.std.specs.Fmt.{digits}
use Rattle.uefi_tcg.specs.EventTypes.{event_type_name}

-- The name of a type, or its number in hex.
unfoldable pub name_or_number : Option (List ℕ) → ℕ → List ℕ
name_or_number (Some name) number = name
name_or_number None number = codes "0x" ++ digits 16 false number

abbrev pub type_text : ℕ → List ℕ
type_text event_type = name_or_number (event_type_name event_type) event_type
