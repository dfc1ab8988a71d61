-- Units in bytes of which the last is zero, for private contracts alone.
use Rattle.std.specs.Prelude.{ℕ, ◌≡◌, ◌+◌, ◌*◌, ◌<◌, List, length, slice_index}
use Rattle.uefi_base.specs.Ucs2.{max_units}
use Rattle.uefi_base.specs.Unaligned.{units_of}

-- The bytes are this many units and a zero one after them, not too many for text.
pub record HasNul (bytes : List ℕ) (count : ℕ) : Type 0 where
  pub sized : length bytes ≡ 2 * (count + 1)
  pub short : count < max_units
  pub nul : slice_index (units_of bytes) count ≡ 0
