-- What a view of tagged events keeps of its bytes: that they are tagged events and a rest, in one way.
use Rattle.std.proofs.Common.{◌≡◌, ℕ, List}
use Rattle.std.proofs.Props.{props}
use mathlib.Core.HLevel.{Σ_prop_path}
use Rattle.std.specs.List.{AllByRecursion-prop}
use Rattle.tcg_event.specs.Tagged.{Tagged, IsTagged, AreTagged}
use Rattle.tcg_event.proofs.TaggedBytes.{one_tagging}

-- The tagged events that bytes begin with, and the bytes after them.
abbrev pub HasTagged : List ℕ → Type 0
HasTagged bytes = (split : List Tagged × List ℕ) × AreTagged bytes split.0 split.1

IsTagged-prop : (tagged : Tagged) → IsProp (IsTagged tagged)
IsTagged-prop tagged = hlevel props

AreTagged-prop : (bytes : List ℕ) (split : List Tagged × List ℕ) → IsProp (AreTagged bytes split.0 split.1)
AreTagged-prop bytes split = hlevel (props, AllByRecursion-prop IsTagged IsTagged-prop split.0)

pub same_split : (bytes : List ℕ) (s t : List Tagged × List ℕ) → AreTagged bytes s.0 s.1 → AreTagged bytes t.0 t.1 → s ≡ t
same_split bytes s t are also =
    let both = one_tagging bytes s.0 t.0 s.1 t.1 are also in
    λ i. (both.0 i, both.1 i)

pub HasTagged-prop : (bytes : List ℕ) → IsProp (HasTagged bytes)
HasTagged-prop bytes s t = Σ_prop_path (AreTagged-prop bytes) (same_split bytes s.0 t.0 s.1 t.1)
