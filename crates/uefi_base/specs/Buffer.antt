-- What a buffer holds after a part of it was written.
use Rattle.std.specs.Prelude.{ℕ, ⊤, ◌+◌, List, ◌++◌, length, take, drop}
use Rattle.std.specs.Borrow.{follows_so, MutBor, Fml, Array, u8 as byte}
use mathlib.Core.Option.{none}

-- The bytes, with those at the offset replaced by the part.
abbrev pub put_at : ℕ → List ℕ → List ℕ → List ℕ
put_at offset part bytes = take offset bytes ++ part ++ drop (offset + length part) bytes

-- The bytes, with the first ones replaced by the part.
abbrev pub put_prefix : List ℕ → List ℕ → List ℕ
put_prefix part bytes = part ++ drop (length part) bytes

-- What holds of a buffer at the end of its loan, if a view has borrowed it until then.
abbrev pub EndsAs : MutBor (List ℕ) → (List ℕ → Type 0) → Fml
EndsAs buffer Holds = follows_so (Array byte 0) (Array byte 0) buffer.ghost_name none (λ _ _. ⊤) Holds
