-- Nodes that are followed by others.
use Rattle.std.proofs.Common.{◌≡◌, ℕ, List, [], ◌∷◌, ◌++◌, sym, ◌∙◌, ap, append_assoc, arith, rules}
use Rattle.std.proofs.lemmas.List.{append-nil}
use Rattle.uefi_path.specs.Node.{Node, Fits, encoding, joined, IsEnd, IsEndEntire, end_entire, end_instance}
use Rattle.uefi_path.specs.Path.{AreEndedBy, AreBefore, IsPath, IsInstance, all_but_last}
use Rattle.uefi_path.specs.private.Encoding.{IsEncodingOfNodes}
use Rattle.uefi_path.specs.private.OnePath.{joined-append}
use Rattle.uefi_path.proofs.Steps.{AreEndedBy-cons}

-- One more node before them.
pub AreBefore-cons : (P : Node → Type 0) (n : Node) (nodes : List Node) → Fits n → (P n → ⊥) → AreBefore P nodes
    → AreBefore P (n ∷ nodes)
AreBefore-cons P n nodes fits not_so before = record { each = (fits, before.each); none = (not_so, before.none) }

-- The nodes before the last of such nodes.
pub AreBefore-all_but_last : (P : Node → Type 0) (nodes : List Node) → AreEndedBy P nodes
    → AreBefore P (all_but_last nodes)
AreBefore-all_but_last P [] ended = absurd ended.end
AreBefore-all_but_last P (n ∷ []) ended = record { each = tt; none = tt }
AreBefore-all_but_last P (n ∷ m ∷ nodes) ended =
    AreBefore-cons P n (all_but_last (m ∷ nodes)) ended.each.0 ended.end.0
    (AreBefore-all_but_last P (m ∷ nodes) (record { each = ended.each.1; end = ended.end.1 }))

-- Nodes none of which satisfies P, and then nodes of which only the last does.
pub AreEndedBy-append : (P : Node → Type 0) (before nodes : List Node) → AreBefore P before → AreEndedBy P nodes
    → AreEndedBy P (before ++ nodes)
AreEndedBy-append P [] nodes is ended = ended
AreEndedBy-append P (n ∷ []) [] is ended = absurd ended.end
AreEndedBy-append P (n ∷ []) (m ∷ nodes) is ended = record {
  each = (is.each.0, ended.each);
  end = (is.none.0, ended.end);
}
AreEndedBy-append P (n ∷ k ∷ before) nodes is ended =
    let others = AreEndedBy-append P (k ∷ before) nodes (record { each = is.each.1; none = is.none.1 }) ended in
    record { each = (is.each.0, others.each); end = (is.none.0, others.end) }

-- Nodes that no longer satisfy P if they don't satisfy a weaker Q.
pub AreBefore-weaker : (P Q : Node → Type 0) → ((n : Node) → P n → Q n) → (nodes : List Node) → AreBefore Q nodes
    → AreBefore P nodes
AreBefore-weaker P Q weaker [] before = record { each = tt; none = tt }
AreBefore-weaker P Q weaker (n ∷ nodes) before =
    AreBefore-cons P n nodes before.each.0 (λ so. before.none.0 (weaker n so))
    (AreBefore-weaker P Q weaker nodes (record { each = before.each.1; none = before.none.1 }))

-- The encoding of nodes none of which satisfies P, and then of nodes of which only the last does.
pub IsEncodingOfNodes-append : (P : Node → Type 0) (bytes : List ℕ) (before nodes : List Node) → AreBefore P before
    → AreEndedBy P nodes → bytes ≡ joined before ++ joined nodes → IsEncodingOfNodes P bytes (before ++ nodes)
IsEncodingOfNodes-append P bytes before nodes is ended e = record {
  ended = AreEndedBy-append P before nodes is ended;
  encoded = e ∙ sym (joined-append before nodes);
}

-- The end-entire node is a path.
pub path_of_end : IsPath (end_entire ∷ [])
path_of_end = search rules

-- A path without its end-entire node, and then another path.
pub path_appended : (nodes others : List Node) (a b bytes : List ℕ) → IsPath nodes → IsPath others
    → a ≡ joined (all_but_last nodes) → b ≡ joined others → bytes ≡ a ++ (b ++ [])
    → IsEncodingOfNodes IsEndEntire bytes (all_but_last nodes ++ others)
path_appended nodes others a b bytes path other first second whole =
    IsEncodingOfNodes-append IsEndEntire bytes (all_but_last nodes) others
    (AreBefore-all_but_last IsEndEntire nodes path) other (simp append-nil at whole ∙ ap2 first second)
  where
    ap2 : a ≡ joined (all_but_last nodes) → b ≡ joined others → a ++ b ≡ joined (all_but_last nodes) ++ joined others
    ap2 p q = cc

-- A path without its end-entire node, then a node, and then an end-entire node.
pub node_appended : (nodes : List Node) (node : Node) (a b c bytes : List ℕ) → IsPath nodes → Fits node
    → ¬ IsEndEntire node → a ≡ joined (all_but_last nodes) → b ≡ encoding node → c ≡ encoding end_entire
    → bytes ≡ a ++ (b ++ (c ++ []))
    → IsEncodingOfNodes IsEndEntire bytes (all_but_last nodes ++ node ∷ end_entire ∷ [])
node_appended nodes node a b c bytes path fits not_end first second third whole =
    IsEncodingOfNodes-append IsEndEntire bytes (all_but_last nodes) (node ∷ end_entire ∷ [])
    (AreBefore-all_but_last IsEndEntire nodes path)
    (AreEndedBy-cons IsEndEntire node (end_entire ∷ []) fits not_end path_of_end)
    (whole ∙ parts first second third)
  where
    parts : {x y z : List ℕ} → a ≡ x → b ≡ y → c ≡ z → a ++ (b ++ (c ++ [])) ≡ x ++ (y ++ (z ++ []))
    parts p q r = cc

-- The node that ends an instance, nodes before the end of an instance, and an end-entire node.
AreEndedBy-instance : (instance : List Node) → IsInstance instance
    → IsPath (end_instance ∷ all_but_last instance ++ end_entire ∷ [])
AreEndedBy-instance instance is =
    AreEndedBy-append IsEndEntire (end_instance ∷ all_but_last instance) (end_entire ∷ [])
    (AreBefore-cons IsEndEntire end_instance (all_but_last instance) (search rules) (λ so. absurd (omega (arith, so.1)))
    (AreBefore-weaker IsEndEntire IsEnd (λ n so. so.0) (all_but_last instance)
    (AreBefore-all_but_last IsEnd instance is))) path_of_end

-- A path without its end-entire node, then the node that ends an instance, and another instance.
pub instance_appended : (nodes instance : List Node) (a b c d bytes : List ℕ) → IsPath nodes → IsInstance instance
    → a ≡ joined (all_but_last nodes) → b ≡ encoding end_instance → c ≡ joined (all_but_last instance)
    → d ≡ encoding end_entire → bytes ≡ a ++ (b ++ (c ++ (d ++ [])))
    → IsEncodingOfNodes IsEndEntire bytes
    (all_but_last nodes ++ end_instance ∷ all_but_last instance ++ end_entire ∷ [])
instance_appended nodes instance a b c d bytes path is first second third fourth whole =
    rw append_assoc
    (IsEncodingOfNodes-append IsEndEntire bytes (all_but_last nodes) (end_instance ∷ all_but_last instance ++ end_entire ∷ [])
    (AreBefore-all_but_last IsEndEntire nodes path) (AreEndedBy-instance instance is)
    (whole ∙ parts first second third fourth
    ∙ ap (λ s. joined (all_but_last nodes) ++ (encoding end_instance ++ s))
    (sym (joined-append (all_but_last instance) (end_entire ∷ [])))))
  where
    parts : {x y z w : List ℕ} → a ≡ x → b ≡ y → c ≡ z → d ≡ w
        → a ++ (b ++ (c ++ (d ++ []))) ≡ x ++ (y ++ (z ++ (w ++ [])))
    parts p q r s = cc
