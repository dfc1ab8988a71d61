-- What private contracts see of an iterator over characters.
use Rattle.std.specs.Prelude.{ℕ, List}
use Rattle.uefi_base.specs.declared.chars_lossy.CharsLossy.{CharsLossy}
use Rattle.uefi_base.specs.Utf16.{before_nul}
use Rattle.uefi_base.specs.Views.{units_left}

-- The units before the NUL that the iterator hasn't read yet.
abbrev pub text_units_left : CharsLossy → List ℕ
text_units_left iter = before_nul (units_left iter.units)
