-- Units as UTF-16 (Unicode, 3.9, D91), up to the first NUL.
use Rattle.std.specs.Prelude.{ℕ, ◌==◌, List}
use Rattle.std.specs.List.{before_first}
use Rattle.std.specs.Char.Utf16.{utf16_lossy_chars}

-- The units before the first zero, the NUL, or all of them if there is none.
abbrev pub before_nul : List ℕ → List ℕ
before_nul units = before_first (λ unit. unit == 0) units

-- Their characters: that of each pair of surrogates and of each other unit, and U+FFFD for a surrogate in no pair.
abbrev pub lossy_characters : List ℕ → List ℕ
lossy_characters units = utf16_lossy_chars (before_nul units)
