-- Whether bytes start with a node, with nodes, or with a path.
use Rattle.std.proofs.Common.{◌≡◌, ℕ, zero, suc, ◌+◌, ◌*◌, ◌<◌, ◌≤◌, List, [], ◌∷◌, ◌++◌, length, drop, get_or, refl}
use Rattle.std.proofs.Common.{sym, ◌∙◌, ap, arith, append_assoc, length-append}
use mathlib.Core.Logic.Dec.{and, of_iff}
use Rattle.std.proofs.Math.Decide.{dec_le, ℕ_discrete}
use Rattle.std.proofs.lemmas.List.{take-append-drop, get_or-append-add}
use Rattle.uefi_base.specs.LittleEndian.{AreBytes}
use Rattle.uefi_path.specs.Header.{header_length}
use Rattle.uefi_path.specs.Node.{Node, Fits, encoding, joined, HasNode, IsEndEntire}
use Rattle.uefi_path.specs.Path.{HasPath}
use Rattle.uefi_path.specs.private.Encoding.{HasNodes}
use Rattle.uefi_path.specs.private.OneNode.{stated_length}
use Rattle.uefi_path.proofs.Nodes.{header_prefix, node_prefix}
use Rattle.uefi_path.proofs.Passing.{HasNodes-after}
use Rattle.uefi_path.proofs.Steps.{HasNodes-node, AreEndedBy-one, AreEndedBy-cons}

-- The length that bytes 2 and 3 state.
abbrev pub stated : List ℕ → ℕ
stated bytes = get_or bytes 2 0 + get_or bytes 3 0 * 256

-- Bytes that start with a node state a length of at least 4, and are at least that long.
abbrev pub StatesNode : List ℕ → Type 0
StatesNode bytes = (4 ≤ length bytes) × ((4 ≤ stated bytes) × (stated bytes ≤ length bytes))

pub node_states : (bytes : List ℕ) → HasNode bytes → StatesNode bytes
node_states bytes has =
    let node = has.0 in
    let rest = has.2.0 in
    let whole : length bytes ≡ header_length + (length node.payload + length rest) =
    omega (arith, ap length has.2.1, length-append node.payload rest) in
    let states : stated bytes ≡ header_length + length node.payload = ap stated has.2.1 ∙ stated_length node has.1 in
    (omega (arith, whole), (omega (arith, states), omega (arith, states, whole)))

-- Bytes that state so start with a node.
pub node_stated : (bytes : List ℕ) → AreBytes bytes → StatesNode bytes → HasNode bytes
node_stated bytes small (enough, (whole_header, within)) =
    let n = stated bytes in
    let header = header_prefix bytes n small enough refl in
    let encodes = node_prefix bytes (get_or bytes 0 0) (get_or bytes 1 0) n small header whole_header within
    (omega (arith, small 2, small 3)) in (
      encodes.0,
      encodes.1.fits,
      (drop n bytes, sym (take-append-drop n bytes) ∙ ap (λ s. s ++ drop n bytes) encodes.1.encoded),
    )

-- Bytes start with a node, or with none.
node_or_none : (bytes : List ℕ) → AreBytes bytes → Dec (HasNode bytes)
node_or_none bytes small = of_iff (node_stated bytes small, node_states bytes)
    (and (dec_le 4 (length bytes)) (and (dec_le 4 (stated bytes)) (dec_le (stated bytes) (length bytes))))

-- What follows a node in bytes is bytes.
bytes_after : (node : Node) (rest bytes : List ℕ) → bytes ≡ encoding node ++ rest → AreBytes bytes → AreBytes rest
bytes_after node rest bytes e small i =
    let at : get_or bytes (length (encoding node) + i) 0 ≡ get_or rest i 0 =
    ap (λ b. get_or b (length (encoding node) + i) 0) e ∙ get_or-append-add (encoding node) rest i 0 in
    omega (arith, at, small (length (encoding node) + i))

-- One more node before such nodes.
HasNodes-before : (P : Node → Type 0) (bytes after : List ℕ) (n : Node) → HasNodes P after → Fits n → (P n → ⊥)
    → bytes ≡ encoding n ++ after → HasNodes P bytes
HasNodes-before P bytes after n has fits not_so e = (
  n ∷ has.0,
  AreEndedBy-cons P n has.0 fits not_so has.1,
  (has.2.0, e ∙ ap (λ s. encoding n ++ s) has.2.1 ∙ sym (append_assoc (encoding n) (joined has.0) has.2.0)),
)

-- Bytes start with nodes of which only the last satisfies P, or with none.
nodes_or_none : (P : Node → Type 0) → ((node : Node) → Dec (P node)) → (k : ℕ) (bytes : List ℕ) → length bytes ≤ k
    → AreBytes bytes → Dec (HasNodes P bytes)
nodes_or_none P d zero bytes short small =
    no (λ has. absurd (omega (arith, short, (node_states bytes (HasNodes-node P bytes has)).0)))
nodes_or_none P d (suc k) bytes short small =
    by_node (node_or_none bytes small) (λ after less fit. nodes_or_none P d k after (omega (arith, less, short)) fit)
  where
    by_node : Dec (HasNode bytes)
        → ((after : List ℕ) → length after < length bytes → AreBytes after → Dec (HasNodes P after))
        → Dec (HasNodes P bytes)
    by_node (no none) go = no (λ has. none (HasNodes-node P bytes has))
    by_node (yes (n, fits, (after, e))) go = elim (d n) [
      | yes so ↦ yes (n ∷ [], AreEndedBy-one P n fits so, (after, e ∙ sym (append_assoc (encoding n) [] after)))
      | no not_so ↦ of_iff (
        λ has. HasNodes-before P bytes after n has fits not_so e,
        λ has. HasNodes-after P bytes after n has fits not_so e,
      )
          (go after (omega (arith, ap length e, length-append n.payload after)) (bytes_after n after bytes e small))
    ]

-- A node is end-entire, or not.
end_entire_or_not : (n : Node) → Dec (IsEndEntire n)
end_entire_or_not n = and (ℕ_discrete n.device_type 0x7f) (ℕ_discrete n.sub_type 0xff)

-- Bytes start with a path, or with none.
pub path_or_none : (bytes : List ℕ) → ((i : ℕ) → get_or bytes i 0 < 256) → Dec (HasPath bytes)
path_or_none bytes = nodes_or_none IsEndEntire end_entire_or_not (length bytes) bytes (omega arith)
