-- The registers, round after round.
use Rattle.std.proofs.Common.{◌≡◌, ℕ, ◌+◌, List, slice_index, add-one, refl}
use Rattle.sm3.specs.Sm3.{round, rounds, w'}

-- One more round.
pub rounds_more : (v ws registers next : List ℕ) (j : ℕ) → registers ≡ rounds v ws j
    → next ≡ round j registers (slice_index ws j) (w' ws j) → next ≡ rounds v ws (j + 1)
unfolding rounds
rounds_more v ws registers next j before is = rw (is, before, add-one j) refl
