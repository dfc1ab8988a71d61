-- So far only characters of an identifier.
use Rattle.std.proofs.Common.{◌≡◌, ◌≤◌, ◌<◌, ℕ, true, get_or}
use Rattle.uefi_path_text.specs.private.FromText.{fits_eisa}
use Rattle.uefi_path_text.proofs.parse.argument.read_eisa.Given as goal

abbrev pub invariant-loop-offset : goal.invariant-loop-offset
invariant-loop-offset l = ((k : ℕ) → k < l.offset → fits_eisa k (get_or l.text k 0) ≡ true) × (l.offset ≤ 7)
