use Rattle.std.proofs.Common.{◌≡◌, map, take}
use Rattle.uefi_tcg.specs.v2.Views.{table_of}
use Rattle.uefi_audits.proofs.algorithms.each_algorithm.Given as goal

-- The algorithms of the rows so far.
abbrev pub invariant-loop-index : goal.invariant-loop-index
invariant-loop-index l = l.algorithms.items ≡ map (λ row. row.0) (take l.index (table_of l.table))
