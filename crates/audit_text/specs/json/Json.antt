-- JSON in which no number is a float: of such a value alone serde_json says which text it has.
use Rattle.std.specs.Prelude.{◌≡◌, ℕ, Bool, false, List, [], ◌∷◌, map, refl}
use Rattle.serde_json.specs.Data as any
use Rattle.serde_json.specs.Data.{Data, Members, no_members, put}
use Rattle.serde_json.specs.View.{items_of}
use Rattle.serde_json.specs.Written.{has_float, items_have_float, members_have_float}
use Rattle.audit_text.specs.private.NoFloat.{neither, none_in_put}

pub record Json : Type 0 where
  pub value : Data
  pub no_float : has_float value ≡ false

abbrev pub null : Json
null = record { value = any.null; no_float = refl }

abbrev pub boolean : Bool → Json
boolean b = record { value = any.boolean b; no_float = refl }

abbrev pub number : ℕ → Json
number n = record { value = any.number (any.unsigned n); no_float = refl }

abbrev pub string : List ℕ → Json
string text = record { value = any.string text; no_float = refl }

-- Values in order.
abbrev pub values_of : List Json → List Data
values_of all = map (λ json. json.value) all

pub none_in_items : (all : List Json) → items_have_float (items_of (values_of all)) ≡ false
none_in_items [] = refl
none_in_items (json ∷ others) = neither (has_float json.value) _ json.no_float (none_in_items others)

abbrev pub array : List Json → Json
array all = record { value = any.array (items_of (values_of all)); no_float = none_in_items all }

-- Members with these, each of which has a key and a value. They are in the order of their keys.
abbrev pub with_members : Members → List (List ℕ × Json) → Members
with_members members [] = members
with_members members (one ∷ others) = with_members (put one.0 one.1.value members) others

pub none_in_members : (members : Members) (more : List (List ℕ × Json)) → members_have_float members ≡ false
    → members_have_float (with_members members more) ≡ false
none_in_members before [] none = none
none_in_members before (one ∷ others) none =
    none_in_members (put one.0 one.1.value before) others (none_in_put one.0 one.1.value before one.1.no_float none)

abbrev pub object : List (List ℕ × Json) → Json
object all = record { value = any.object (with_members no_members all); no_float = none_in_members no_members all refl }
