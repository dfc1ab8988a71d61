-- What `path` prints: the bytes of the device path whose text is given (UEFI 2.10, 10.6 "Device Path Display Format Overview").
use Rattle.std.specs.Prelude.{ℕ, List, ◌++◌, codes, ◌≡◌}
use Rattle.uefi_path.specs.Node.{Node, joined}
use Rattle.uefi_path_text.specs.declared.parse.error.FromTextError.{FromTextError}
use Rattle.uefi_path_text.specs.declared.parse.error.FromTextError.TheVariants.{UnknownNode, Argument, Missing, TooLong, Buffer, Memory}
use Rattle.uefi_path_text.specs.parse.Errors.{HasMemoryFault, IsText}
use Rattle.uefi_path_text.specs.parse.Paths.{IsTextOf}
use Rattle.shown.specs.HexText.{hex_of}
use Rattle.boot_listing.specs.Refusal.{refusal_line}
use Rattle.boot_listing.specs.declared.command.Form.{Form}
use Rattle.boot_listing.specs.declared.command.Form.TheVariants.{Lines, Json}
use Rattle.boot_listing.specs.declared.outcome.Outcome.{Outcome}
use Rattle.boot_listing.specs.declared.outcome.Outcome.TheVariants.{Listed, Refused}

-- What an error of the reader is named by. It doesn't return the last two for a text that is refused.
abbrev pub fault_of : FromTextError → List ℕ
fault_of (UnknownNode offset) = codes "refused UnknownNode"
fault_of (Argument offset) = codes "refused Argument"
fault_of (Missing offset) = codes "refused Missing"
fault_of (TooLong offset) = codes "refused TooLong"
fault_of (Buffer needed) = codes "refused Buffer"
fault_of Memory = codes ""

-- The line of a path's bytes: their digits alone, or an object with them.
unfoldable pub bytes_line : Form → List ℕ → List ℕ
bytes_line Lines bytes = hex_of bytes ++ codes "\n"
bytes_line Json bytes = codes "{\"bytes\":\"" ++ hex_of bytes ++ codes "\"}\n"

-- The text is that of a path, and what is printed are its bytes.
pub record PrintsPath (form : Form) (text printed : List ℕ) (nodes : List Node) : Type 0 where
  pub path : IsTextOf nodes text
  pub line : printed ≡ bytes_line form (joined nodes)

-- It is the text of no path, and what is printed says why.
pub record RefusesText (form : Form) (text printed : List ℕ) (error : FromTextError) : Type 0 where
  pub none : ¬ IsText text
  pub fault : HasMemoryFault text error
  pub reason : printed ≡ refusal_line form (fault_of error)

abbrev pub PathListing : Form → List ℕ → List ℕ → Outcome → Type 0
PathListing form text printed Listed = (nodes : List Node) × PrintsPath form text printed nodes
PathListing form text printed Refused = (error : FromTextError) × RefusesText form text printed error
