-- Nodes of what vendors describe.
use Rattle.std.proofs.Common.{◌≡◌, ◌≢◌, ◌⊎◌, ◌↔◌, inl, inr, ◌<◌, ◌≤◌, ℕ, true, false, List, [], ◌++◌, length, refl, sym, ap, subst, ◌∙◌, arith}
use Rattle.std.proofs.Math.Dec.{eqb}
use Rattle.std.proofs.lemmas.Bool.Decides.{eqb_tells}
use Rattle.std.proofs.lemmas.List.{append-nil}
use Rattle.std.specs.Borrow.{Bor}
use Rattle.std.specs.Prelude.{if◌then◌else◌, Option, Some, None}
use Rattle.uefi_path.specs.Node.{Node}
use Rattle.uefi_node.specs.Layout.{value_bytes}
use Rattle.uefi_node.specs.Hardware.{vendor as hardware_vendor}
use Rattle.uefi_node.specs.Messaging.{vendor as messaging_vendor}
use Rattle.uefi_node.specs.Media.{vendor as media_vendor}
use Rattle.uefi_node.proofs.Layouts.{value_sized}
use Rattle.uefi_c.specs.Nodes.{IsVendorNode, vendor_node}
use Rattle.uefi_c.specs.private.Nodes.{HasNumbers, Writes, vendor_sub_type}
use Rattle.uefi_c.specs.Status.{ok, other_data}
use Rattle.uefi_c.proofs.NodesRead.{numbers_found}
use Rattle.uefi_c.specs.declared.nodes.vendor.UefiVendorNode.{UefiVendorNode}

-- What holds of the type and the subtype of each of the three.
abbrev OfEach : (ℕ → ℕ → Type 0) → Type 0
OfEach P = P 1 4 × (P 3 10 × P 4 3)

-- Two numbers, and two nodes, are the same if their options are.
number_in : Option ℕ → ℕ
number_in None = 0
number_in (Some n) = n

same_numbers : (a b : ℕ) → Some a ≡ Some b → a ≡ b
unfolding number_in
same_numbers a b is = ap number_in is

node_in : Node → Option Node → Node
node_in other None = other
node_in other (Some node) = node

same_nodes : (a b : Node) → Some a ≡ Some b → a ≡ b
unfolding node_in
same_nodes a b is = ap (node_in a) is

-- A subtype that a type has for vendors is that of one of the three.
of_media : (P : ℕ → ℕ → Type 0) (t s : ℕ) → P 4 3 → ((eqb t 4 ≡ true) × (t ≡ 4)) ⊎ ((eqb t 4 ≡ false) × (t ≢ 4))
    → (if eqb t 4 then Some 3 else None) ≡ Some s → P t s
of_media P t s p (inl (so, is)) has =
    let sub : 3 ≡ s = same_numbers 3 s ((λ i. if sym so i then Some 3 else None) ∙ has) in
    subst (λ k. P k s) (sym is) (subst (P 4) sub p)
of_media P t s p (inr (so, other)) has =
    let never : ◌≡◌ {A = Option ℕ} None (Some s) = (λ i. if sym so i then Some 3 else None) ∙ has in absurd cc

of_messaging : (P : ℕ → ℕ → Type 0) (t s : ℕ) → P 3 10 × P 4 3
    → ((eqb t 3 ≡ true) × (t ≡ 3)) ⊎ ((eqb t 3 ≡ false) × (t ≢ 3))
    → (if eqb t 3 then Some 10 else (if eqb t 4 then Some 3 else None)) ≡ Some s → P t s
of_messaging P t s (p, others) (inl (so, is)) has =
    let sub : 10 ≡ s =
    same_numbers 10 s ((λ i. if sym so i then Some 10 else (if eqb t 4 then Some 3 else None)) ∙ has) in
    subst (λ k. P k s) (sym is) (subst (P 3) sub p)
of_messaging P t s (p, others) (inr (so, other)) has =
    of_media P t s others (eqb_tells t 4) ((λ i. if sym so i then Some 10 else (if eqb t 4 then Some 3 else None)) ∙ has)

of_hardware : (P : ℕ → ℕ → Type 0) (t s : ℕ) → OfEach P → ((eqb t 1 ≡ true) × (t ≡ 1)) ⊎ ((eqb t 1 ≡ false) × (t ≢ 1))
    → vendor_sub_type t ≡ Some s → P t s
of_hardware P t s (p, others) (inl (so, is)) has =
    let sub : 4 ≡ s = same_numbers 4 s ((λ i. if sym so i then Some 4
    else (if eqb t 3 then Some 10 else (if eqb t 4 then Some 3 else None))) ∙ has) in
    subst (λ k. P k s) (sym is) (subst (P 1) sub p)
of_hardware P t s (p, others) (inr (so, other)) has =
    of_messaging P t s others (eqb_tells t 3) ((λ i. if sym so i then Some 4
    else (if eqb t 3 then Some 10 else (if eqb t 4 then Some 3 else None))) ∙ has)

of_vendor : (P : ℕ → ℕ → Type 0) (t s : ℕ) → OfEach P → vendor_sub_type t ≡ Some s → P t s
of_vendor P t s each has = of_hardware P t s each (eqb_tells t 1) has

-- The node of a structure has the subtype of its type, and its GUID and then its data.
pub vendor_is : (seen : UefiVendorNode) (s : ℕ) → vendor_sub_type seen.device_type ≡ Some s
    → vendor_node seen ≡ Some (record {
      device_type = seen.device_type;
      sub_type = s;
      payload = seen.vendor_guid ++ seen.vendor_defined_data.now;
    })
unfolding value_bytes
vendor_is seen s has =
    let guid : List ℕ = seen.vendor_guid in
    let rest : List ℕ = seen.vendor_defined_data.now in
    let joined : (guid ++ []) ++ rest ≡ guid ++ rest = ap (λ g. g ++ rest) (append-nil guid) in
    of_vendor (λ t k. vendor_node (record seen { device_type = t })
    ≡ Some (record { device_type = t; sub_type = k; payload = guid ++ rest })) seen.device_type s (
      λ i. Some (record { device_type = 1; sub_type = 4; payload = joined i }),
      (
        λ i. Some (record { device_type = 3; sub_type = 10; payload = joined i }),
        λ i. Some (record { device_type = 4; sub_type = 3; payload = joined i }),
      ),
    ) has

-- A node with the numbers of one of the three, whose data are a GUID and others, is one of what a vendor describes.
vendor_at : (guid : List ℕ) (rest : Bor (List ℕ)) → length guid ≡ 16
    → OfEach (λ t s. IsVendorNode (record { device_type = t; sub_type = s; payload = guid ++ rest.now }))
unfolding value_bytes
vendor_at guid rest sized =
    let joined : guid ++ rest.now ≡ (guid ++ []) ++ rest.now = ap (λ g. g ++ rest.now) (sym (append-nil guid)) in (
      inl (
        record { vendor_guid = record { 0 = guid }; vendor_defined_data = rest },
        (
          record { fields = (sized, tt); rest = tt; value = refl; form = tt },
          λ i. record { device_type = 1; sub_type = 4; payload = joined i },
        ),
      ),
      (
        inr (inl (
          record { vendor_guid = record { 0 = guid }; vendor_defined_data = rest },
          (
            record { fields = (sized, tt); rest = tt; value = refl; form = tt },
            λ i. record { device_type = 3; sub_type = 10; payload = joined i },
          ),
        )),
        inr (inr (
          record { vendor_guid = record { 0 = guid }; vendor_defined_data = rest },
          (
            record { fields = (sized, tt); rest = tt; value = refl; form = tt },
            λ i. record { device_type = 4; sub_type = 3; payload = joined i },
          ),
        )),
      ),
    )

pub vendor_found : (t s : ℕ) (payload guid : List ℕ) (rest : Bor (List ℕ)) → vendor_sub_type t ≡ Some s → length guid ≡ 16
    → payload ≡ guid ++ rest.now → IsVendorNode (record { device_type = t; sub_type = s; payload = payload })
vendor_found t s payload guid rest has sized is =
    subst (λ p. IsVendorNode (record { device_type = t; sub_type = s; payload = p })) (sym is)
    (of_vendor (λ k n. IsVendorNode (record { device_type = k; sub_type = n; payload = guid ++ rest.now })) t s
    (vendor_at guid rest sized) has)

-- A node of what a vendor describes has the numbers of one of the three, and a GUID.
numbers_at : (node : Node) (t s : ℕ) → HasNumbers t s node → vendor_sub_type t ≡ Some s
    → vendor_sub_type node.device_type ≡ Some node.sub_type
numbers_at node t s (same_type, same_sub_type) has =
    ap vendor_sub_type same_type ∙ has ∙ ap Some (sym same_sub_type)

pub vendor_numbers : (node : Node) → IsVendorNode node
    → (vendor_sub_type node.device_type ≡ Some node.sub_type) × (16 ≤ length node.payload)
vendor_numbers node (inl (r, (fits, is))) = (
  numbers_at node 1 4 (numbers_found hardware_vendor node (r, (fits, is))) refl,
  (value_sized hardware_vendor r node.payload fits (ap (λ n. n.payload) is)).0,
)
vendor_numbers node (inr (inl (r, (fits, is)))) = (
  numbers_at node 3 10 (numbers_found messaging_vendor node (r, (fits, is))) refl,
  (value_sized messaging_vendor r node.payload fits (ap (λ n. n.payload) is)).0,
)
vendor_numbers node (inr (inr (r, (fits, is)))) = (
  numbers_at node 4 3 (numbers_found media_vendor node (r, (fits, is))) refl,
  (value_sized media_vendor r node.payload fits (ap (λ n. n.payload) is)).0,
)

-- What is written is the node of the structure.
pub vendor_written : (seen : UefiVendorNode) (s status size : ℕ) (old new : List ℕ) (node : Node)
    → vendor_sub_type seen.device_type ≡ Some s → vendor_node seen ≡ Some node
    → Writes (record {
      device_type = seen.device_type;
      sub_type = s;
      payload = seen.vendor_guid ++ seen.vendor_defined_data.now;
    }) old new status size
    → Writes node old new status size
vendor_written seen s status size old new node has is writes =
    subst (λ n. Writes n old new status size) (same_nodes _ _ (sym (vendor_is seen s has) ∙ is)) writes

-- Whether a node is one, by the test of its numbers and of its data.
pub is_one : (t s : ℕ) (payload : List ℕ) (guid rest : Bor (List ℕ)) → vendor_sub_type t ≡ Some s → length guid.now ≡ 16
    → payload ≡ guid.now ++ rest.now → (ok ≡ ok) ↔ IsVendorNode (record { device_type = t; sub_type = s; payload = payload })
is_one t s payload guid rest has sized is = (λ _. vendor_found t s payload guid.now rest has sized is, λ _. refl)

pub other_numbers : (node : Node) → (vendor_sub_type node.device_type ≡ Some node.sub_type → false ≡ true)
    → (other_data ≡ ok) ↔ IsVendorNode node
other_numbers node none =
    (λ so. absurd (omega (arith, so)), λ of. let never = none (vendor_numbers node of).0 in absurd cc)

pub too_few : (node : Node) → length node.payload < 16 → (other_data ≡ ok) ↔ IsVendorNode node
too_few node few = (λ so. absurd (omega (arith, so)), λ of. absurd (omega (arith, few, (vendor_numbers node of).1)))
