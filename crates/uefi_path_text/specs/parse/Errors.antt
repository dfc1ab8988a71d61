-- What reading a text returns.
use Rattle.std.specs.Prelude.{ℕ, ◌≡◌, ◌≤◌, ◌<◌, ◌++◌, List, length, min, codes}
use Rattle.std.specs.Fmt.{decimal}
use Rattle.uefi_base.specs.Buffer.{put_prefix}
use Rattle.uefi_path.specs.Node.{Node, joined}
use Rattle.uefi_path_text.specs.parse.Paths.{IsTextOf}
use Rattle.uefi_path_text.specs.declared.parse.error.FromTextError.{FromTextError}
use Rattle.uefi_path_text.specs.declared.parse.error.FromTextError.TheVariants.{UnknownNode, Argument, Missing, TooLong, Buffer, Memory}

-- The text is that of no path, by a fault at the offset.
pub record IsWrongAt (text : List ℕ) (offset : ℕ) : Type 0 where
  pub within : offset ≤ length text
  pub none : (nodes : List Node) → ¬ IsTextOf nodes text

-- The text is that of a path.
abbrev pub IsText : List ℕ → Type 0
IsText text = (nodes : List Node) × IsTextOf nodes text

-- The text is that of a path of this length, or of a greater one if that is the greatest number of a program.
pub record NeedsLength (text : List ℕ) (nodes : List Node) (needed : ℕ) : Type 0 where
  pub text_of : IsTextOf nodes text
  pub length : needed ≡ min (length (joined nodes)) 0xffffffffffffffff

-- Why no path is written into a buffer of so many bytes.
abbrev pub HasBufferFault : List ℕ → ℕ → FromTextError → Type 0
HasBufferFault text room (UnknownNode offset) = IsWrongAt text offset
HasBufferFault text room (Argument offset) = IsWrongAt text offset
HasBufferFault text room (Missing offset) = IsWrongAt text offset
HasBufferFault text room (TooLong offset) = IsWrongAt text offset
HasBufferFault text room (Buffer needed) = ((nodes : List Node) × NeedsLength text nodes needed) × (room < needed)
HasBufferFault text room Memory = ⊥

-- Why no path is returned that owns its memory.
abbrev pub HasMemoryFault : List ℕ → FromTextError → Type 0
HasMemoryFault text (UnknownNode offset) = IsWrongAt text offset
HasMemoryFault text (Argument offset) = IsWrongAt text offset
HasMemoryFault text (Missing offset) = IsWrongAt text offset
HasMemoryFault text (TooLong offset) = IsWrongAt text offset
HasMemoryFault text (Buffer needed) = ⊥
HasMemoryFault text Memory = IsText text

-- The texts that Display writes for errors.
abbrev pub at_offset : List ℕ → ℕ → List ℕ
at_offset what offset = what ++ (codes " at byte " ++ decimal offset)

abbrev pub from_text_error_text : FromTextError → List ℕ
from_text_error_text (UnknownNode offset) = at_offset (codes "a node of an unknown name") offset
from_text_error_text (Argument offset) = at_offset (codes "an unexpected character") offset
from_text_error_text (Missing offset) = at_offset (codes "something is missing") offset
from_text_error_text (TooLong offset) = at_offset (codes "a node that is too long") offset
from_text_error_text (Buffer needed) = codes "the buffer is shorter than " ++ (decimal needed ++ codes " bytes")
from_text_error_text Memory = codes "out of memory"

-- The buffer starts with the path whose text this is, which has so many bytes, and the bytes after it are what they
-- were.
abbrev pub WritesText : List ℕ → List ℕ → List ℕ → ℕ → Type 0
WritesText text old new n = (nodes : List Node) × IsTextOf nodes text × (n ≡ length (joined nodes)) × (n ≤ length old)
    × (new ≡ put_prefix (joined nodes) old)
