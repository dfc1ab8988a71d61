-- The JSON values that the code makes, and those of the definitions.
use Rattle.std.specs.Prelude.{◌≡◌, ◌++◌, ℕ, List, map, String, Vec}
use Rattle.std.specs.BTreeMap.{BTreeMap}
use Rattle.std.specs.declared.alloc.Global.{Global}
use Rattle.serde_json.specs.View.{members_view, view}
use Rattle.serde_json.specs.declared.value.Value.{Value}
use Rattle.audit_text.specs.json.Json.{Json, values_of, with_members}

-- A value of the program is this one; and these are those of a list.
abbrev pub IsValueOf : Json → Value → Type 0
IsValueOf json value = view value ≡ json.value

abbrev pub AreValuesOf : List Json → Vec Value Global → Type 0
AreValuesOf all values = map view values.items ≡ values_of all

-- A program's list grows by these values; and its object gets these members.
abbrev pub AppendsValues : Vec Value Global → Vec Value Global → List Json → Type 0
AppendsValues old new more = map view new.items ≡ map view old.items ++ values_of more

abbrev pub PutsMembers : BTreeMap (String Global) Value → BTreeMap (String Global) Value → List (List ℕ × Json) → Type 0
PutsMembers old new more = members_view new.entries ≡ with_members (members_view old.entries) more
