-- When units are the description of a load option, with its NUL.
use Rattle.std.specs.Prelude.{ℕ, ◌≡◌, List}
use Rattle.uefi_path.specs.LoadOption.{AreNonzeroUnits, with_nul}

-- The last unit is the NUL, and no other is zero.
abbrev pub IsDescription : List ℕ → Type 0
IsDescription units = (description : List ℕ) × AreNonzeroUnits description × (units ≡ with_nul description)
