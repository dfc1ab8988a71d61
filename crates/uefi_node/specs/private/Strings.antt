-- What the reader of three strings returns.
use Rattle.std.specs.Prelude.{ℕ, List, Option, IfSome, IfNone}
use Rattle.std.specs.Borrow.{Bor}
use Rattle.uefi_node.specs.NulStrings.{AreStrings}

-- At Some, the three strings that the bytes are; at None, they are none.
pub record TakesStrings (bytes : List ℕ) (taken : Option (Bor (List ℕ) × Bor (List ℕ) × Bor (List ℕ))) : Type 0 where
  pub some : IfSome taken (λ s. AreStrings bytes s.0.now s.1.now s.2.now)
  pub none : IfNone taken ((first second third : List ℕ) → AreStrings bytes first second third → ⊥)
