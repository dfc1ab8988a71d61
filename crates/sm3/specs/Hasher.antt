-- What a hasher holds.
use Rattle.std.specs.Prelude.{◌≡◌, ℕ, ◌*◌, ◌/◌, ◌%◌, ◌^◌, List, length, take, drop}
use Rattle.sm3.specs.Sm3.{value_after}
use Rattle.sm3.specs.declared.hasher.Sm3.{Sm3}

-- The hasher s holds the message m: it has counted its bytes, modulo 2 ^ 64, compressed its whole blocks, and kept the
-- bytes after them.
pub record Holds (s : Sm3) (m : List ℕ) : Type 0 where
  pub counted : s.total ≡ length m % 2 ^ 64
  pub compressed : s.value ≡ value_after m (length m / 64)
  pub kept : take (length m % 64) s.block ≡ drop (64 * (length m / 64)) m
