-- The texts of errors.
use Rattle.std.specs.Prelude.{ℕ, List, Option, None, Some, codes}
use Rattle.file_input.specs.declared.error.ReadError.{ReadError}
use Rattle.file_input.specs.declared.error.ReadError.TheVariants.{Memory, Io, TooManyReads}

-- The text that an error displays. Of a cause no contract says it.
abbrev pub error_text : ReadError → Option (List ℕ)
error_text Memory = Some (codes "out of memory")
error_text (Io cause) = None
error_text TooManyReads = Some (codes "too many reads")
