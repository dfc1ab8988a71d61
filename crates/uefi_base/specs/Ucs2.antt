-- UCS-2 text (UEFI 2.10, 2.3.1 "Data Types", CHAR16).
use Rattle.std.specs.Prelude.{ℕ, ◌≡◌, ◌≢◌, ◌-◌, ◌^◌, ◌<◌, ◌≤◌, List, length, take, slice_index}

-- The largest number of units of a text, including its NUL: a limit of this library, since UEFI has none.
abbrev pub max_units : ℕ
max_units = 2 ^ 31

-- The last character that fits one unit.
abbrev pub last_character : ℕ
last_character = 0xffff

-- The unit is half of a surrogate pair of UTF-16, which UCS-2 doesn't have.
abbrev pub IsSurrogate : ℕ → Type 0
IsSurrogate unit = (0xd800 ≤ unit) × (unit ≤ 0xdfff)

-- The unit is a character: it may come before the NUL.
pub record IsCharacter (unit : ℕ) : Type 0 where
  pub no_surrogate : ¬ IsSurrogate unit
  pub not_nul : unit ≢ 0

-- Each unit before the index is a character.
abbrev pub AreCharactersBefore : List ℕ → ℕ → Type 0
AreCharactersBefore units index = (k : ℕ) → k < index → IsCharacter (slice_index units k)

-- The units are text: at most max_units of them, the last is zero, and each other is a character.
pub record IsUcs2Text (units : List ℕ) : Type 0 where
  pub short : length units ≤ max_units
  pub not_empty : 0 < length units
  pub nul : slice_index units (length units - 1) ≡ 0
  pub characters : AreCharactersBefore units (length units - 1)

-- The characters of text: its units without the last, the NUL.
abbrev pub characters_of : List ℕ → List ℕ
characters_of units = take (length units - 1) units

-- The character has a unit of its own that isn't the NUL.
abbrev pub HasUnit : ℕ → Type 0
HasUnit character = (0 < character) × (character ≤ last_character)

-- Each character before the index has a unit of its own.
abbrev pub HaveUnitsBefore : List ℕ → ℕ → Type 0
HaveUnitsBefore characters index = (k : ℕ) → k < index → HasUnit (slice_index characters k)

-- The characters make text: each has a unit of its own, and with the NUL there are at most max_units units.
pub record MakeUcs2Text (characters : List ℕ) : Type 0 where
  pub short : length characters < max_units
  pub have_units : HaveUnitsBefore characters (length characters)
