use Rattle.std.proofs.Common.{List, drop, string_bytes}
use Rattle.boot_listing.specs.private.Found.{Finds}
use Rattle.boot_listing.specs.declared.variables.VariableFile.{VariableFile}
use Rattle.boot_listing.proofs.Listings.{LeavesOptions}
use Rattle.boot_listing.proofs.list.push_options.Given as goal

abbrev pub invariant-loop-number : goal.invariant-loop-number
invariant-loop-number g l =
    (files : List VariableFile) → Finds files l.found
    → LeavesOptions l.form files l.number-items (drop l.number-index l.number-items) (string_bytes l.initial.text) (string_bytes l.text)
