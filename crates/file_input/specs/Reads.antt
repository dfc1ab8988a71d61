-- What reading an input to its end promises.
use Rattle.std.specs.Prelude.{◌≢◌, ◌≤◌, ◌+◌, ◌*◌, ℕ, List, Option, length, ⊤}
use Rattle.std.specs.Io.KnownBytes.{Consumes}
use Rattle.std.specs.IoError.{error_kind}
use Rattle.std.specs.declared.io.ErrorKind.TheVariants.{Interrupted}
use Rattle.file_input.specs.declared.error.ReadError.{ReadError}
use Rattle.file_input.specs.declared.error.ReadError.TheVariants.{Memory, Io, TooManyReads}

-- The most bytes that one read takes.
abbrev pub part_length : ℕ
part_length = 65536

-- A reader gave the bytes in so many reads. None gives more than part_length bytes, and an interrupted one gives none.
pub record AreGiven (reads : ℕ) (old new : Option (List ℕ)) (bytes : List ℕ) : Type 0 where
  pub short : length bytes ≤ reads * part_length
  pub taken : Consumes old new bytes

-- So many reads can give the bytes and find the end after them, which takes a read of its own.
abbrev pub AreWithin : ℕ → List ℕ → Type 0
AreWithin reads bytes = length bytes + part_length ≤ reads * part_length

-- No interrupted read is the error: it is tried again.
abbrev pub IsNoInterruption : ReadError → Type 0
IsNoInterruption Memory = ⊤
IsNoInterruption (Io cause) = error_kind cause ≢ Interrupted
IsNoInterruption TooManyReads = ⊤
