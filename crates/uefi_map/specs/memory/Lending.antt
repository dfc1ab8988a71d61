-- What a caller's buffer ends as, once it was lent to a map, and a map, once its buffer was lent.
use Rattle.std.specs.Prelude.{ℕ, ◌≡◌, List, Result}
use Rattle.std.specs.Borrow.{Lends, RestsIfErr, MutBor, Fml, Array, u8 as byte, RattleType}
use Rattle.uefi_map.specs.declared.memory.map_error.MemoryMapError.{MemoryMapError}
use Rattle.uefi_map.specs.declared.memory.map_ref_mut.MemoryMapRefMut.{MemoryMapRefMut}

-- The map, of whatever type, ends with the last bytes that the reference lends in its buffer.
abbrev pub LendsBuffer : (R : RattleType) → MutBor R.Denot → (List ℕ → R.Denot) → MutBor (List ℕ) → Fml
LendsBuffer R map with_bytes r = Lends R (Array byte 0) map r with_bytes

-- The buffer ends as the map leaves it, and as it was where there is no map.
abbrev pub StaysIfRefused : MutBor (List ℕ) → Result MemoryMapRefMut MemoryMapError → Fml
StaysIfRefused buffer result = RestsIfErr (Array byte 0) buffer (λ map. map.buffer.ghost_name) result
    (λ last. last ≡ buffer.now)
