-- What the searches through units, characters and texts of GUIDs find, and which error follows: for private contracts
-- alone.
use Rattle.std.specs.Prelude.{ℕ, ◌≡◌, ◌<◌, Option, None, Some, MatchOption, if◌then◌else◌, List, length, slice_index}
use Rattle.uefi_base.specs.declared.text_error.FromSliceWithNulError.{FromSliceWithNulError}
use Rattle.uefi_base.specs.declared.text_error.FromStrError.{FromStrError}
use Rattle.uefi_base.specs.declared.text_error.FromStrError.TheVariants.{TooLong, InvalidChar, InteriorNul, Memory}
use Rattle.uefi_base.specs.declared.text_error.GuidFromStrError.{GuidFromStrError}
use Rattle.uefi_base.specs.declared.text_error.GuidFromStrError.TheVariants.{InvalidSeparator, InvalidHex}
use Rattle.uefi_base.specs.GuidText.{is_separator}
use Rattle.uefi_base.specs.Ucs2.{last_character, IsCharacter, AreCharactersBefore, IsUcs2Text, HasUnit, HaveUnitsBefore}
use Rattle.uefi_base.specs.Faults.{HasFault, AreTooMany, OffendsFirst}

-- The first unit that isn't a character, with its index; at None, all are.
abbrev pub IsFirstNonCharacter : List ℕ → Option (ℕ × ℕ) → Type 0
IsFirstNonCharacter units None = AreCharactersBefore units (length units)
IsFirstNonCharacter units (Some first) = (first.0 < length units) × (first.1 ≡ slice_index units first.0)
    × AreCharactersBefore units first.0 × ¬ IsCharacter first.1

-- The error of all lists of this many units with this first unit that isn't a character; at None, they are text.
abbrev pub TellsFault : ℕ → Option (ℕ × ℕ) → Option FromSliceWithNulError → Type 0
TellsFault count first fault = (units : List ℕ) → length units ≡ count → IsFirstNonCharacter units first
    → MatchOption fault (IsUcs2Text units) (HasFault units)

-- The first character that has no unit of its own; at None, all have one.
abbrev pub IsFirstWithoutUnit : List ℕ → Option ℕ → Type 0
IsFirstWithoutUnit characters None = HaveUnitsBefore characters (length characters)
IsFirstWithoutUnit characters (Some first) =
    (index : ℕ) × (index < length characters) × (first ≡ slice_index characters index)
    × HaveUnitsBefore characters index × ¬ HasUnit first

-- The error that characters have, which is never Memory.
abbrev pub HasStrFault : List ℕ → FromStrError → Type 0
HasStrFault characters TooLong = AreTooMany characters
HasStrFault characters InvalidChar = OffendsFirst characters (λ character. last_character < character)
HasStrFault characters InteriorNul = OffendsFirst characters (λ character. character ≡ 0)
HasStrFault characters Memory = ⊥

-- The error for a byte at the index that the text of a GUID doesn't have there.
abbrev pub unfit_at : ℕ → GuidFromStrError
unfit_at index = if is_separator index then InvalidSeparator index else InvalidHex index
