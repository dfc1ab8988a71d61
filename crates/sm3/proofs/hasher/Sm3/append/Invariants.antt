use Rattle.std.proofs.Common.{◌≡◌, ◌++◌, ℕ, List, length}
use Rattle.sm3.specs.Hasher.{Holds}
use Rattle.sm3.proofs.hasher.Sm3.append.Given as goal

-- The hasher holds the message with what comes before the rest.
abbrev pub invariant-parts : goal.invariant-parts
invariant-parts l =
    (m : List ℕ) → Holds l.fn.self m → (front : List ℕ) × ((l.bytes ≡ front ++ l.rest) × Holds l.self (m ++ front))

abbrev pub decreases-parts : goal.decreases-parts
decreases-parts l = length l.rest
