-- Nodes that are read as the values of their types.
use Rattle.std.proofs.Common.{◌≡◌, ◌↔◌, ℕ, ◌-◌, List, length, sym, ◌∙◌, ap, subst, arith, refl, true, false}
use Rattle.uefi_base.specs.LittleEndian.{AreBytes}
use Rattle.uefi_path.specs.Node.{Node}
use Rattle.uefi_node.specs.Layout.{Layout, nothing, fields_size, kind_of, RestLength, IsNodeAs}
use Rattle.uefi_node.specs.Reading.{HasLength}
use Rattle.uefi_node.specs.private.Fields.{HasValue}
use Rattle.uefi_node.proofs.Layouts.{value_read, value_sized}
use Rattle.uefi_c.specs.Nodes.{IsOfType}
use Rattle.uefi_c.specs.private.Nodes.{HasFields, HasNumbers}
use Rattle.uefi_c.specs.Status.{ok, other_data}

-- The node with these fields.
node_is : (node : Node) (t s : ℕ) (p : List ℕ) → node.device_type ≡ t → node.sub_type ≡ s → node.payload ≡ p
    → node ≡ record { device_type = t; sub_type = s; payload = p }
node_is node t s p same_type same_sub same_payload =
    λ i. record { device_type = same_type i; sub_type = same_sub i; payload = same_payload i }

-- A node with the numbers of a type whose data have a value is its node.
pub value_found : {R : Type 0} (l : Layout R) (r : R) (node : Node) (b : List ℕ) → b ≡ node.payload → AreBytes b
    → HasNumbers l.device_type l.sub_type node → HasLength l b → HasValue l r b → IsNodeAs l r node
value_found l r node b is each numbers (room, long) value =
    let read = value_read l r b each room long value in
    (read.0, node_is node l.device_type l.sub_type _ numbers.0 numbers.1 (sym is ∙ read.1))

-- Where nothing follows the fields, data of their length are those of the value whose fields they have.
pub fields_read : {R : Type 0} (l : Layout R) (r : R) (node : Node) (b : List ℕ) → l.rest ≡ nothing → b ≡ node.payload
    → AreBytes b → HasFields l.device_type l.sub_type (fields_size l.fields) node → HasValue l r b → IsNodeAs l r node
fields_read l r node b fixed is each has value =
    let long : length b ≡ fields_size l.fields = ap length is ∙ has.sized in
    let none : length b - fields_size l.fields ≡ 0 = omega (arith, long) in
    value_found l r node b is each has.numbers (
      omega (arith, long),
      subst (λ rest. RestLength (kind_of rest) (length b - fields_size l.fields)) (sym fixed) none,
    ) value

-- The node of a value has the numbers of its type.
pub numbers_found : {R : Type 0} (l : Layout R) (node : Node) → IsOfType l node → HasNumbers l.device_type l.sub_type node
numbers_found l node (r, (fits, is)) = (ap (λ n. n.device_type) is, ap (λ n. n.sub_type) is)

-- The node of a value has as much data.
pub fields_sized : {R : Type 0} (l : Layout R) (node : Node) → l.rest ≡ nothing → IsOfType l node
    → HasFields l.device_type l.sub_type (fields_size l.fields) node
fields_sized l node fixed (r, (fits, is)) =
    let of : IsOfType l node = (r, (fits, is)) in
    let sized = value_sized l r node.payload fits (ap (λ n. n.payload) is) in
    let none : length node.payload - fields_size l.fields ≡ 0 =
    subst (λ rest. RestLength (kind_of rest) (length node.payload - fields_size l.fields)) fixed sized.1 in
    record {
      numbers = numbers_found l node of;
      sized = omega (arith, sized.0, none);
    }

-- Then success says exactly that the node is of the type, and so does the status of other data.
pub is_found : {R : Type 0} (l : Layout R) (r : R) (node : Node) → IsNodeAs l r node → (ok ≡ ok) ↔ IsOfType l node
is_found l r node is = (λ _. (r, is), λ _. refl)

pub not_found : {R : Type 0} (l : Layout R) (node : Node) → (IsOfType l node → false ≡ true)
    → (other_data ≡ ok) ↔ IsOfType l node
not_found l node none = (λ so. absurd (omega (arith, so)), λ of. let never = none of in absurd cc)
