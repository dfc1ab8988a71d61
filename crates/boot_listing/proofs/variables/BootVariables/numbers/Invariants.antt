use Rattle.std.proofs.Common.{◌≡◌, ℕ, List, ◌++◌, filter}
use Rattle.std.specs.List.{range_with_len}
use Rattle.boot_listing.specs.Variables.{is_other}
use Rattle.boot_listing.specs.private.Found.{Finds}
use Rattle.boot_listing.specs.private.Marks.{AreMarks}
use Rattle.boot_listing.specs.declared.variables.VariableFile.{VariableFile}
use Rattle.boot_listing.proofs.variables.BootVariables.numbers.Given as goal

abbrev pub invariant-loop-index : goal.invariant-loop-index
invariant-loop-index g l =
    (files : List VariableFile) → (order : List ℕ) → Finds files l.self → AreMarks order l.is_ordered.items
    → l.numbers.items ≡ l.initial.numbers.items ++ filter (is_other files order) (range_with_len 0 l.index)
