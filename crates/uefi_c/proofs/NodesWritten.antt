-- Nodes that are written by their types.
use Rattle.std.proofs.Common.{◌≡◌, ◌↔◌, ◌⊎◌, inl, inr, ℕ, ◌<◌, ◌≤◌, List, [], ◌∷◌, ◌++◌, length, subst, arith, length-append}
use Rattle.uefi_path.specs.Node.{Node, encoding}
use Rattle.uefi_path.specs.build.Writing.{greatest_length}
use Rattle.uefi_node.specs.Layout.{Layout, fields_bytes, rest_bytes, value_bytes, node_as}
use Rattle.uefi_c.specs.PathWrite.{IsNeeded}
use Rattle.uefi_c.specs.private.Nodes.{Writes}
use Rattle.uefi_c.specs.Status.{buffer_too_small, IsOneOf, ok, too_long}

-- A node whose data are the fields of a value and what follows them is that of the value.
node_of_value : {R : Type 0} (l : Layout R) (r : R) (fields rest : List ℕ) → fields ≡ fields_bytes l.fields r
    → rest ≡ rest_bytes l.rest r
    → record { device_type = l.device_type; sub_type = l.sub_type; payload = fields ++ rest } ≡ node_as l r
unfolding value_bytes
node_of_value l r fields rest same_fields same_rest =
    λ i. record { device_type = l.device_type; sub_type = l.sub_type; payload = same_fields i ++ same_rest i }

-- So what is written is the node of the value.
pub value_written : {R : Type 0} (l : Layout R) (r : R) (fields rest old new : List ℕ) (status size : ℕ)
    → fields ≡ fields_bytes l.fields r → rest ≡ rest_bytes l.rest r
    → Writes (record { device_type = l.device_type; sub_type = l.sub_type; payload = fields ++ rest }) old new status size
    → Writes (node_as l r) old new status size
value_written l r fields rest old new status size same_fields same_rest writes =
    subst (λ node. Writes node old new status size) (node_of_value l r fields rest same_fields same_rest) writes

-- A short node has a length that two bytes state: it is written, or the buffer is too small.
short_known : (node : Node) (status : ℕ) → length node.payload ≤ 100
    → (status ≡ too_long) ↔ (greatest_length < length (encoding node))
    → IsOneOf status (ok ∷ buffer_too_small ∷ too_long ∷ []) → (status ≡ ok) ⊎ (status ≡ buffer_too_small)
short_known node status short long (inl is_ok) = inl is_ok
short_known node status short long (inr (inl is_small)) = inr is_small
short_known node status short long (inr (inr (inl is_long))) = absurd (omega (arith, long.0 is_long, short))
short_known node status short long (inr (inr (inr never))) = absurd never

-- So the size of one whose data are fields alone is the length that is needed.
pub fields_needed : {R : Type 0} (l : Layout R) (r : R) (fields old new : List ℕ) (status size : ℕ)
    → fields ≡ fields_bytes l.fields r → [] ≡ rest_bytes l.rest r → length fields ≤ 100
    → Writes (record { device_type = l.device_type; sub_type = l.sub_type; payload = fields ++ [] }) old new status size
    → IsNeeded (length (encoding (node_as l r))) (length old) size status
fields_needed l r fields old new status size same_fields same_rest short writes =
    let node : Node = record { device_type = l.device_type; sub_type = l.sub_type; payload = fields ++ [] } in
    let known = short_known node status (omega (arith, length-append {A = ℕ} fields [], short)) writes.long writes.known in
    (value_written l r fields [] old new status size same_fields same_rest writes).needed known
