-- The instances of paths.
use Rattle.std.proofs.Common.{◌≡◌, ℕ, List, [], ◌∷◌, refl, sym, ◌∙◌, ap}
use Rattle.std.proofs.Math.Decide.{ℕ_discrete}
use Rattle.uefi_path.specs.Node.{Node, Fits, joined, IsEnd, IsEndEntire}
use Rattle.uefi_path.specs.Path.{IsPath, concat, AreInstances}
use Rattle.uefi_path.specs.private.Encoding.{IsEncodingOfNodes, IsEncodingOfInstances, EncodesInstances}
use Rattle.uefi_path.specs.private.OnePath.{instances_encoded_once}
use Rattle.uefi_path.proofs.Steps.{AreEndedBy-one, AreEndedBy-cons}

-- With one more node before them, instances are still instances: the node is one of its own or the start of the first.
cut_more : (n : Node) (instances : List (List Node)) (nodes : List Node) → Dec (IsEnd n) → Fits n
    → (instances ≡ [] → ⊥) → AreInstances instances nodes
    → (others : List (List Node)) × AreInstances others (n ∷ nodes)
cut_more n instances nodes (yes so) fits some cut = (
  (n ∷ []) ∷ instances,
  record {
    each = (AreEndedBy-one IsEnd n fits so, cut.each);
    whole = ap (λ s. n ∷ s) cut.whole;
  },
)
cut_more n [] nodes (no not_so) fits some cut = absurd (some refl)
cut_more n (instance ∷ instances) nodes (no not_so) fits some cut = (
  (n ∷ instance) ∷ instances,
  record {
    each = (AreEndedBy-cons IsEnd n instance fits not_so cut.each.0, cut.each.1);
    whole = ap (λ s. n ∷ s) cut.whole;
  },
)

-- Instances whose nodes aren't empty aren't empty.
some_instance : (instances : List (List Node)) (n : Node) (nodes : List Node) → concat instances ≡ n ∷ nodes
    → instances ≡ [] → ⊥
some_instance [] n nodes e none = cc
some_instance (p ∷ instances) n nodes e none = cc

-- Each path consists of instances.
cut_of : (nodes : List Node) → IsPath nodes → (instances : List (List Node)) × AreInstances instances nodes
cut_of [] path = absurd path.end
cut_of (n ∷ []) path = (
  (n ∷ []) ∷ [],
  record { each = (AreEndedBy-one IsEnd n path.each.0 path.end.0, tt); whole = refl },
)
cut_of (n ∷ m ∷ nodes) path =
    let others = cut_of (m ∷ nodes) (record { each = path.each.1; end = path.end.1 }) in
    cut_more n others.0 (m ∷ nodes) (ℕ_discrete n.device_type 0x7f) path.each.0
    (some_instance others.0 m nodes others.1.whole) others.1

-- The bytes of a path encode instances.
pub instances_of : (bytes : List ℕ) (nodes : List Node) → IsEncodingOfNodes IsEndEntire bytes nodes
    → EncodesInstances bytes
instances_of bytes nodes encodes =
    let cut = cut_of nodes encodes.ended in
    (cut.0, record { each = cut.1.each; encoded = encodes.encoded ∙ ap joined (sym cut.1.whole) })

-- The instances that the bytes of a path encode are the instances of the path.
pub are_instances : (bytes : List ℕ) (nodes : List Node) (instances : List (List Node))
    → IsEncodingOfNodes IsEndEntire bytes nodes → IsEncodingOfInstances bytes instances
    → AreInstances instances nodes
are_instances bytes nodes instances encodes apart =
    let cut = cut_of nodes encodes.ended in
    let same : instances ≡ cut.0 = instances_encoded_once instances cut.0 apart.each cut.1.each
    (sym apart.encoded ∙ encodes.encoded ∙ ap joined (sym cut.1.whole)) in
    record { each = apart.each; whole = ap concat same ∙ cut.1.whole }
