-- Cursors: offsets into bytes, from which a call reads and which it moves.
use Rattle.std.specs.Prelude.{ℕ, ◌≡◌, ◌+◌, ◌++◌, List, length, drop}
use Rattle.std.specs.List.{AllByRecursion, flat_map}
use Rattle.uefi_base.specs.Prefix.{IsPrefix}

-- The encoding is in the bytes from the offset `start` on, and ends at `end`.
pub record Stands (encoding bytes : List ℕ) (start end : ℕ) : Type 0 where
  pub begins : IsPrefix encoding (drop start bytes)
  pub ends : end ≡ start + length encoding

-- The items of a walk over bytes: all that there are, one after another from the first byte on, and a rest that begins with none.
pub record AreItems {A : Type 0} (Is : A → Type 0) (encoding : A → List ℕ) (bytes : List ℕ) (items : List A) : Type 0 where
  pub each : AllByRecursion Is items
  pub rest : List ℕ
  pub split : bytes ≡ flat_map encoding items ++ rest
  pub no_more : (item : A) → Is item → IsPrefix (encoding item) rest → ⊥
