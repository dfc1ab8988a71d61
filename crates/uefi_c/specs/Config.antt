-- What a cursor over a configuration text (UEFI 2.10, 35.2.1 "String Syntax") gives, and the name that a value spells.
use Rattle.std.specs.Prelude.{ℕ, List, [], Some, None, IsSome, IsUtf8, unwrap_or, if◌then◌else◌}
use Rattle.uefi_hii.specs.Pairs.{Pair}
use Rattle.uefi_hii.specs.Values.{name}
use Rattle.uefi_c.specs.declared.config.UefiPair.{UefiPair}

abbrev pub pair_seen : UefiPair → Pair
pair_seen seen = record { key = seen.key.now; value = if seen.has_value then Some seen.value.now else None }

-- The value is a text in UTF-8 that spells a name.
pub record HasName (value : List ℕ) : Type 0 where
  pub utf8 : IsUtf8 value
  pub named : IsSome (name value)

-- The name, in UTF-8.
abbrev pub name_of : List ℕ → List ℕ
name_of value = unwrap_or (name value) []
