-- Texts of paths.
use Rattle.std.specs.Prelude.{ℕ, ◌≤◌, List, length}
use Rattle.uefi_path.specs.Node.{Node, joined}
use Rattle.uefi_path_text.specs.parse.Errors.{IsWrongAt}
use Rattle.uefi_path_text.specs.parse.Paths.{IsTextOf}
use Rattle.uefi_path_text.specs.declared.parse.error.FromTextError.{FromTextError}
use Rattle.uefi_path_text.specs.declared.parse.error.FromTextError.TheVariants.{UnknownNode, Argument, Missing, TooLong, Buffer, Memory}

-- Why a text is that of no path.
abbrev pub HasTextFault : List ℕ → FromTextError → Type 0
HasTextFault text (UnknownNode offset) = IsWrongAt text offset
HasTextFault text (Argument offset) = IsWrongAt text offset
HasTextFault text (Missing offset) = IsWrongAt text offset
HasTextFault text (TooLong offset) = IsWrongAt text offset
HasTextFault text (Buffer needed) = ⊥
HasTextFault text Memory = ⊥

-- The text is that of a path of at most so many bytes.
abbrev pub IsTextWithin : ℕ → List ℕ → Type 0
IsTextWithin room text = (nodes : List Node) × IsTextOf nodes text × (length (joined nodes) ≤ room)
