-- Groups that fail.
use Rattle.std.proofs.Common.{◌≡◌, ◌≢◌, List, [], ◌∷◌, ◌++◌, refl, append_assoc, inl, inr}
use Rattle.uefi_hii.specs.Pairs.{Pair}
use Rattle.uefi_hii.specs.Slots.{Expects, IsGood, Slot, error_of}
use Rattle.uefi_hii.specs.Cut.{first_pair}
use Rattle.uefi_hii.specs.private.Taking.{Misses, TakesError}
use Rattle.uefi_hii.proofs.Leading.{push_some}

-- The group fails where the slot's pair has to come after the pairs f, and doesn't.
pub fails_after : (slot : Slot) (before f rest after : List Pair) → before ≢ [] → before ≡ f ++ rest
    → Expects f (first_pair rest) slot → Misses (IsGood slot) rest after → TakesError before (error_of slot) after
fails_after slot before f rest after some e expects (inl m) = (
  f,
  rw (m.1, ← m.0) e,
  record {
    not_empty = λ none. some (rw (e, none) m.0);
    gives = (slot, refl, inr (rw m.1, rw m.0 at expects));
  },
)
fails_after slot before f rest after some e expects (inr m) = (
  f ++ m.0 ∷ [],
  rw (e, m.1, append_assoc f (m.0 ∷ []) after),
  record {
    not_empty = push_some f m.0;
    gives = (slot, refl, inl (f, m.0, refl, rw m.1 at expects, m.2));
  },
)
