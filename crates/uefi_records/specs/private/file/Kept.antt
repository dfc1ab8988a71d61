-- What views of records keep of their bytes.
use Rattle.std.specs.Prelude.{ℕ, ◌≡◌, ◌%◌, ◌≤◌, List, length, drop}
use Rattle.uefi_records.specs.file.Name.{IsName, unit_length, units_from}

-- The bytes are those before a name and those of the name, and no more.
pub record EndsWithName (offset : ℕ) (bytes : List ℕ) : Type 0 where
  pub before : offset ≤ length bytes
  pub whole_units : length (drop offset bytes) % unit_length ≡ 0
  pub name : IsName (units_from offset bytes)
