-- How the program ends if it didn't print what it was asked for: its exit status, and its line on standard error, where
-- it hasn't a cause that the system names.
use Rattle.std.specs.Prelude.{ℕ, List, codes, Option, None, Some}
use Rattle.uefi_boot.specs.declared.failure.Failure.{Failure}
use Rattle.uefi_boot.specs.declared.failure.Failure.TheVariants.{OtherWords, Folder, File, Output, Memory}

abbrev pub status_of : Failure → ℕ
status_of OtherWords = 2
status_of (Folder name cause) = 3
status_of (File name cause) = 3
status_of (Output cause) = 3
status_of Memory = 3

abbrev pub message_of : Failure → Option (List ℕ)
message_of OtherWords = Some (codes "usage: uefi_boot list|option|text|path [--json] DIR|FILE|TEXT")
message_of (Folder name cause) = None
message_of (File name cause) = None
message_of (Output cause) = None
message_of Memory = Some (codes "uefi_boot: memory")
