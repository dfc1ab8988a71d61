-- The numbers of nodes and instances that bytes can encode.
use Rattle.std.proofs.Common.{ℕ, ◌*◌, ◌≤◌, List, [], ◌∷◌, length, ap, arith, length-append}
use Rattle.std.specs.List.{AllByRecursion}
use Rattle.uefi_path.specs.Node.{Node, encoding, joined}
use Rattle.uefi_path.specs.private.Encoding.{IsEncodingOfNodes}
use Rattle.uefi_path.specs.Path.{IsInstance, AreInstances, concat, all_but_last}

-- A node has at least four bytes.
pub four_bytes_each : (nodes : List Node) → 4 * length nodes ≤ length (joined nodes)
four_bytes_each [] = omega arith
four_bytes_each (n ∷ nodes) = omega (arith, four_bytes_each nodes, length-append (encoding n) (joined nodes))

-- An instance has at least one node.
pub node_each : (instances : List (List Node)) → AllByRecursion IsInstance instances
    → length instances ≤ length (concat instances)
node_each [] each = omega arith
node_each ([] ∷ instances) each = absurd each.0.end
node_each ((n ∷ instance) ∷ instances) each =
    omega (arith, node_each instances each.1, length-append (n ∷ instance) (concat instances))

-- A list without its last element is no longer than the list.
length-all_but_last : {A : Type 0} (xs : List A) → length (all_but_last xs) ≤ length xs
length-all_but_last [] = omega arith
length-all_but_last (x ∷ []) = omega arith
length-all_but_last (x ∷ y ∷ ys) = omega (arith, length-all_but_last (y ∷ ys))

-- Before the end of the nodes that bytes encode, there are fewer nodes than bytes.
pub few_before_end : (P : Node → Type 0) (bytes : List ℕ) (nodes : List Node) → IsEncodingOfNodes P bytes nodes
    → length (all_but_last nodes) ≤ length bytes
few_before_end P bytes nodes encodes =
    omega (arith, length-all_but_last nodes, four_bytes_each nodes, ap length encodes.encoded)

-- The instances of the nodes that bytes encode are no more than the bytes.
pub few_instances : (P : Node → Type 0) (bytes : List ℕ) (nodes : List Node) (instances : List (List Node))
    → IsEncodingOfNodes P bytes nodes → AreInstances instances nodes
    → length instances ≤ length bytes
few_instances P bytes nodes instances encodes cut =
    omega (arith, node_each instances cut.each, ap length cut.whole, four_bytes_each nodes, ap length encodes.encoded)
