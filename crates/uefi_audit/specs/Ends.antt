-- How the program ends: its exit status, and its line on standard error.
use Rattle.std.specs.Prelude.{ℕ, Bool, true, false, List, [], codes, Option, None, Some, Result, Ok, Err}
use Rattle.clap.specs.declared.error.kind.ErrorKind.{ErrorKind}
use Rattle.clap.specs.declared.error.kind.ErrorKind.TheVariants as kind
use Rattle.uefi_audit.specs.declared.failure.Failure.{Failure}
use Rattle.uefi_audit.specs.declared.failure.Failure.TheVariants.{Arguments, Shown, Output, Memory}
use Rattle.uefi_audit.specs.declared.failure.Status.{Status}
use Rattle.uefi_audit.specs.declared.failure.Status.TheVariants.{Well, Differs, Unjudged, Unread}

-- The worse one of two: nothing is worse than a file that wasn't read, and next comes a log that can't be judged.
abbrev pub worse : Status → Status → Status
worse Well other = other
worse Differs Well = Differs
worse Differs Differs = Differs
worse Differs Unjudged = Unjudged
worse Differs Unread = Unread
worse Unjudged Well = Unjudged
worse Unjudged Differs = Unjudged
worse Unjudged Unjudged = Unjudged
worse Unjudged Unread = Unread
worse Unread other = Unread

-- The exit status by what was met.
abbrev pub code_of : Status → ℕ
code_of Well = 0
code_of Differs = 1
code_of Unread = 3
code_of Unjudged = 4

-- That of a failure.
abbrev pub failure_code : Failure → ℕ
failure_code Arguments = 2
failure_code Shown = 0
failure_code (Output cause) = 3
failure_code Memory = 3

-- Whether all was said before; and what is said. Of a cause no contract says it.
abbrev pub is_told : Failure → Bool
is_told Arguments = true
is_told Shown = true
is_told (Output cause) = false
is_told Memory = false

abbrev pub failure_text : Failure → Option (List ℕ)
failure_text Arguments = Some []
failure_text Shown = Some []
failure_text (Output cause) = None
failure_text Memory = Some (codes "memory")

-- Whether a write failed.
abbrev pub is_output : Failure → Bool
is_output Arguments = false
is_output Shown = false
is_output (Output cause) = true
is_output Memory = false

abbrev pub exit_code : Result Status Failure → ℕ
exit_code (Ok status) = code_of status
exit_code (Err failure) = failure_code failure

-- The failure that an error of `clap` is, once its text is printed: help and version were asked for.
abbrev pub failure_of : ErrorKind → Failure
failure_of kind.OutOfMemory = Memory
failure_of kind.DisplayHelp = Shown
failure_of kind.DisplayVersion = Shown
failure_of _ = Arguments
