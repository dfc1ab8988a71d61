-- Device paths and their instances (UEFI 2.10, 10.2 and 10.3.1).
use Rattle.std.specs.Prelude.{◌≡◌, ℕ, List, [], ◌∷◌}
use Rattle.std.specs.List.{flat_map, AllByRecursion}
use Rattle.uefi_path.specs.Node.{Node, Fits, joined, IsEnd, IsEndEntire}
use Rattle.uefi_base.specs.Prefix.{IsPrefix}

-- The last element of the list satisfies P, and no other does.
abbrev pub LastAlone : {A : Type 0} → (A → Type 0) → List A → Type 0
LastAlone P [] = ⊥
LastAlone P (x ∷ []) = P x
LastAlone P (x ∷ y ∷ ys) = (P x → ⊥) × LastAlone P (y ∷ ys)

-- Nodes of which only the last satisfies P.
pub record AreEndedBy (P : Node → Type 0) (nodes : List Node) : Type 0 where
  pub each : AllByRecursion Fits nodes
  pub end : LastAlone P nodes

-- Nodes none of which satisfies P.
pub record AreBefore (P : Node → Type 0) (nodes : List Node) : Type 0 where
  pub each : AllByRecursion Fits nodes
  pub none : AllByRecursion (λ node. ¬ P node) nodes

-- A path: nodes of which only the last is end-entire.
abbrev pub IsPath : List Node → Type 0
IsPath = AreEndedBy IsEndEntire

-- An instance: nodes of which only the last has the type END.
abbrev pub IsInstance : List Node → Type 0
IsInstance = AreEndedBy IsEnd

-- Some prefix of the bytes is a path.
abbrev pub HasPath : List ℕ → Type 0
HasPath bytes = (nodes : List Node) × IsPath nodes × IsPrefix (joined nodes) bytes

-- The nodes of the instances, in order.
abbrev pub concat : List (List Node) → List Node
concat instances = flat_map (λ instance. instance) instances

-- The instances of a path: the nodes of the instances, in order, are the nodes of the path.
pub record AreInstances (instances : List (List Node)) (nodes : List Node) : Type 0 where
  pub each : AllByRecursion IsInstance instances
  pub whole : concat instances ≡ nodes

-- The list without its last element.
abbrev pub all_but_last : {A : Type 0} → List A → List A
all_but_last [] = []
all_but_last (x ∷ []) = []
all_but_last (x ∷ y ∷ ys) = x ∷ all_but_last (y ∷ ys)
