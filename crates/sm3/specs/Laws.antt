-- What the definition means in the standard's words.
use Rattle.std.specs.Prelude.{◌≡◌, ◌≤◌, ℕ, ◌+◌, ◌%◌, List, length}
use Rattle.sm3.specs.Sm3.{padded, zero_count}

-- The padding's zero bytes are the fewest that lead from its first byte to 8 bytes before the end of a block, so that a
-- padded message is whole blocks (5.2).
pub record PadsToBlocks : Type 0 where
  pub leaves_eight : (n : ℕ) → (n + 1 + zero_count n) % 64 ≡ 56
  pub fewest : (n zeros : ℕ) → (n + 1 + zeros) % 64 ≡ 56 → zero_count n ≤ zeros
  pub whole : (m : List ℕ) → length (padded m) % 64 ≡ 0
