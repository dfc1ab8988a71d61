-- One step of the iterators.
use Rattle.std.proofs.Common.{◌≡◌, ℕ, List, [], ◌∷◌, ◌++◌, refl, sym, ◌∙◌, ap, subst, append_assoc}
use Rattle.std.proofs.Common.{Some, None, Result, Ok, Err, IfOk, OnErr}
use Rattle.std.specs.Result.{result_ok}
use Rattle.std.proofs.lemmas.List.{append-nil}
use Rattle.uefi_base.specs.Prefix.{IsPrefix}
use Rattle.uefi_path.specs.Node.{Node, Fits, encoding, joined, HasNode, IsEnd}
use Rattle.uefi_path.specs.Path.{AreEndedBy, concat, all_but_last}
use Rattle.uefi_path.specs.private.Encoding.{HasNodes, IsEncodingOfNodes, EncodesNodes, IsEncodingOfInstances}
use Rattle.uefi_path.specs.private.Encoding.{EncodesInstances}
use Rattle.uefi_path.specs.private.OnePath.{same_first, one_ended, nodes_encoded_once, instances_encoded_once}
use Rattle.uefi_path.specs.private.OnePath.{joined-append, some_bytes}

-- Bytes that start with nodes of which only the last satisfies P start with a node.
pub HasNodes-node : (P : Node → Type 0) (bytes : List ℕ) → HasNodes P bytes → HasNode bytes
HasNodes-node P bytes has = go has.0 has.1 has.2
  where
    go : (nodes : List Node) → AreEndedBy P nodes → IsPrefix (joined nodes) bytes → HasNode bytes
    go [] ended prefix = absurd ended.end
    go (n ∷ nodes) ended prefix = (
      n,
      ended.each.0,
      (joined nodes ++ prefix.0, prefix.1 ∙ append_assoc (encoding n) (joined nodes) prefix.0),
    )

-- Bytes that encode such nodes start with them.
pub HasNodes-encoded : (P : Node → Type 0) (bytes : List ℕ) (nodes : List Node) → IsEncodingOfNodes P bytes nodes
    → HasNodes P bytes
HasNodes-encoded P bytes nodes encodes = (nodes, encodes.ended, ([], encodes.encoded ∙ sym (append-nil (joined nodes))))

-- One node that satisfies P is such nodes.
pub AreEndedBy-one : (P : Node → Type 0) (n : Node) → Fits n → P n → AreEndedBy P (n ∷ [])
AreEndedBy-one P n fits so = record { each = (fits, tt); end = so }

-- No node precedes the one that ends the list.
pub none_before_end : {P : Node → Type 0} {bytes : List ℕ} {n : Node} {nodes : List Node} (after : List ℕ)
    → IsEncodingOfNodes P bytes nodes → Fits n → P n → bytes ≡ encoding n ++ after → all_but_last nodes ≡ []
none_before_end {P} {bytes} {n} {nodes} after encodes fits so e =
    let same : joined nodes ++ [] ≡ joined (n ∷ []) ++ after = append-nil (joined nodes) ∙ sym encodes.encoded ∙ e
    ∙ sym (append_assoc (encoding n) [] after) in
    ap all_but_last (one_ended P nodes (n ∷ []) [] after encodes.ended (AreEndedBy-one P n fits so) same).0

-- After a node that doesn't end such nodes, the others follow.
pub after_first : (P : Node → Type 0) (n : Node) (nodes : List Node) (after x : List ℕ) → Fits n → (P n → ⊥)
    → AreEndedBy P nodes → encoding n ++ after ≡ joined nodes ++ x
    → (others : List Node) × AreEndedBy P others × (after ≡ joined others ++ x)
after_first P n [] after x fits not_so ended e = absurd ended.end
after_first P n (m ∷ []) after x fits not_so ended e =
    absurd (not_so (subst P (sym (same_first n m [] after x fits ended.each.0 e).0) ended.end))
after_first P n (m ∷ k ∷ nodes) after x fits not_so ended e = (
  k ∷ nodes,
  record { each = ended.each.1; end = ended.end.1 },
  (same_first n m (k ∷ nodes) after x fits ended.each.0 e).1,
)

-- So the bytes after it encode the others.
pub after_node : {P : Node → Type 0} {bytes : List ℕ} {n : Node} {nodes : List Node} (after : List ℕ)
    → IsEncodingOfNodes P bytes nodes → Fits n → (P n → ⊥) → bytes ≡ encoding n ++ after → EncodesNodes P after
after_node {P} {bytes} {n} {nodes} after encodes fits not_so e =
    let others = after_first P n nodes after [] fits not_so encodes.ended
    (sym e ∙ encodes.encoded ∙ sym (append-nil (joined nodes))) in
    (others.0, record { ended = others.1; encoded = others.2 ∙ append-nil (joined others.0) })

-- One more node before such nodes.
pub AreEndedBy-cons : (P : Node → Type 0) (n : Node) (others : List Node) → Fits n → (P n → ⊥) → AreEndedBy P others
    → AreEndedBy P (n ∷ others)
AreEndedBy-cons P n [] fits not_so ended = absurd ended.end
AreEndedBy-cons P n (m ∷ others) fits not_so ended = record { each = (fits, ended.each); end = (not_so, ended.end) }

-- The last of one more node before such nodes is their last.
all_but_last-cons : (P : Node → Type 0) (n : Node) (others : List Node) → AreEndedBy P others
    → all_but_last (n ∷ others) ≡ n ∷ all_but_last others
all_but_last-cons P n [] ended = absurd ended.end
all_but_last-cons P n (m ∷ others) ended = refl

-- The node that the bytes start with is the first of those that are left.
pub next_node : {P : Node → Type 0} {bytes after : List ℕ} {n : Node} {nodes others : List Node}
    → IsEncodingOfNodes P bytes nodes → Fits n → (P n → ⊥)
    → bytes ≡ encoding n ++ after → IsEncodingOfNodes P after others → all_but_last nodes ≡ n ∷ all_but_last others
next_node {P} {bytes} {after} {n} {nodes} {others} encodes fits not_so e left =
    let all : nodes ≡ n ∷ others =
    nodes_encoded_once P bytes nodes (n ∷ others) encodes
    (record {
      ended = AreEndedBy-cons P n others fits not_so left.ended;
      encoded = e ∙ ap (λ b. encoding n ++ b) left.encoded;
    }) in
    ap all_but_last all ∙ all_but_last-cons P n others left.ended

-- If the bytes start with no instance, none is left.
pub none_left : {bytes : List ℕ} {instances : List (List Node)} → IsEncodingOfInstances bytes instances
    → ¬ HasNodes IsEnd bytes → instances ≡ []
none_left {bytes} {instances = []} encodes none = refl
none_left {bytes} {instances = p ∷ instances} encodes none =
    absurd (none (p, encodes.each.0, (joined (concat instances), encodes.encoded ∙ joined-append p (concat instances))))

-- After an instance, the bytes encode the other instances.
pub after_instance : {bytes : List ℕ} {instances : List (List Node)} (prefix after : List ℕ)
    → IsEncodingOfInstances bytes instances → EncodesNodes IsEnd prefix → bytes ≡ prefix ++ after
    → EncodesInstances after
after_instance {bytes} {instances = []} prefix after encodes came e =
    absurd (some_bytes came.0 after came.1.ended (ap (λ b. b ++ after) (sym came.1.encoded) ∙ sym e ∙ encodes.encoded))
after_instance {bytes} {instances = p ∷ instances} prefix after encodes came e =
    let first = one_ended IsEnd came.0 p after (joined (concat instances)) came.1.ended encodes.each.0
    (ap (λ b. b ++ after) (sym came.1.encoded) ∙ sym e ∙ encodes.encoded
    ∙ joined-append p (concat instances)) in
    (instances, record { each = encodes.each.1; encoded = first.1 })

-- The instance that the bytes start with is the first of those that are left.
pub next_instance : {bytes prefix after : List ℕ} {nodes : List Node} {instances others : List (List Node)}
    → IsEncodingOfInstances bytes instances → IsEncodingOfNodes IsEnd prefix nodes
    → bytes ≡ prefix ++ after → IsEncodingOfInstances after others → instances ≡ nodes ∷ others
next_instance {bytes} {prefix} {after} {nodes} {instances} {others} encodes came e left =
    instances_encoded_once instances (nodes ∷ others) encodes.each (came.ended, left.each)
    (sym encodes.encoded ∙ e ∙ ap (λ b. b ++ after) came.encoded ∙ ap (λ b. joined nodes ++ b) left.encoded
    ∙ sym (joined-append nodes (concat others)))

-- What is ensured of a result, where its value is taken, and where there is none.
pub of_value : {X E : Type 0} (P : X → Type 0) (r : Result X E) (x : X) → Some x ≡ result_ok r → IfOk r P → P x
of_value P (Ok y) x e holds =
    let same : y ≡ x = cc in
    subst P same holds
of_value P (Err _) x e holds = absurd cc

pub of_none : {X E : Type 0} (A : Type 0) (r : Result X E) → None ≡ result_ok r → OnErr r A → A
of_none A (Ok y) e holds = absurd cc
of_none A (Err _) e holds = holds
