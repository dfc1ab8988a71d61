-- The hash algorithms in the table of a log's header, by their numbers.
use Rattle.std.specs.Prelude.{◌↔◌, ℕ, List, map}
use Rattle.std.specs.List.{Contains}
use Rattle.std.specs.List.Sorted.{IsStrictlyIncreasing}
use Rattle.uefi_tcg.specs.v2.Event.{Table}

-- The numbers of the algorithms in a table, each once, in ascending order.
pub record AreAlgorithmsIn (table : Table) (algorithms : List ℕ) : Type 0 where
  pub ascending : IsStrictlyIncreasing algorithms
  pub same : (algorithm : ℕ) → Contains algorithms algorithm ↔ Contains (map (λ row. row.0) table) algorithm
