-- What a reader returns, from what it tested.
use Rattle.std.proofs.Common.{◌≡◌, ℕ, List, length, sym, ◌∙◌, ap, subst, Ok, Err}
use Rattle.uefi_base.specs.LittleEndian.{AreBytes}
use Rattle.uefi_path.specs.Node.{Node}
use Rattle.uefi_node.specs.Layout.{Layout, HasForm}
use Rattle.uefi_node.specs.Reading.{HasType, HasLength, ReadsAs}
use Rattle.uefi_node.specs.private.Fields.{HasValue, HasLengthOf, node_kind}
use Rattle.uefi_node.specs.declared.read.NodeKind.{NodeKind}
use Rattle.uefi_node.specs.declared.error.NodeConversionError.TheVariants.{DifferentType, Length, Form}
use Rattle.uefi_node.proofs.Layouts.{value_read, value_sized}

-- The node with these fields.
node_is : (node : Node) (t s : ℕ) (p : List ℕ) → node.device_type ≡ t → node.sub_type ≡ s → node.payload ≡ p
    → node ≡ record { device_type = t; sub_type = s; payload = p }
node_is node t s p same_type same_sub same_payload =
    λ i. record { device_type = same_type i; sub_type = same_sub i; payload = same_payload i }

-- A node whose data have a value is read as it.
pub reads_value : {R : Type 0} (l : Layout R) (r : R) (node : Node) (b : List ℕ) → b ≡ node.payload → AreBytes b
    → HasType l node → HasLength l b → HasValue l r b → ReadsAs l node (Ok r)
reads_value l r node b is each (same_type, same_sub) (room, long) has =
    let read = value_read l r b each room long has in
    record {
      ok = (read.0, node_is node l.device_type l.sub_type _ same_type same_sub (sym is ∙ read.1));
      err = tt;
      none = tt;
    }

-- A node of another type is that of no value.
pub reads_other_type : {R : Type 0} (l : Layout R) (node : Node) → ¬ HasType l node → ReadsAs l node (Err DifferentType)
reads_other_type l node other = record {
  ok = tt;
  err = other;
  none = λ r is. other (ap (λ n. n.device_type) is.1, ap (λ n. n.sub_type) is.1);
}

-- Nor is one of another length.
pub reads_other_length : {R : Type 0} (l : Layout R) (node : Node) → HasType l node → ¬ HasLength l node.payload
    → ReadsAs l node (Err Length)
reads_other_length l node same other = record {
  ok = tt;
  err = (same, other);
  none = λ r is. other (value_sized l r node.payload is.0 (ap (λ n. n.payload) is.1));
}

-- Nor is one of another form.
pub reads_other_form : {R : Type 0} (l : Layout R) (node : Node) (b : List ℕ) → b ≡ node.payload → HasType l node
    → HasLength l b → ¬ HasForm l.form b → ReadsAs l node (Err Form)
reads_other_form l node b is same long other =
    let none : ¬ HasForm l.form node.payload = λ form. other (subst (HasForm l.form) (sym is) form) in
    record {
      ok = tt;
      err = (same, subst (HasLength l) is long, none);
      none = λ r of. none (subst (HasForm l.form) (sym (ap (λ n. n.payload) of.1)) of.0.form);
    }

-- The type and the length of data by the constant of a layout.
pub type_given : {R : Type 0} (l : Layout R) (kind : NodeKind) (node : Node) → kind ≡ node_kind l
    → (node.device_type ≡ kind.full_type.0.0) × (node.sub_type ≡ kind.full_type.1.0) → HasType l node
type_given l kind node is same =
    (same.0 ∙ ap (λ k. k.full_type.0.0) is, same.1 ∙ ap (λ k. k.full_type.1.0) is)

pub type_known : {R : Type 0} (l : Layout R) (kind : NodeKind) (node : Node) → kind ≡ node_kind l → HasType l node
    → (node.device_type ≡ kind.full_type.0.0) × (node.sub_type ≡ kind.full_type.1.0)
type_known l kind node is same =
    (same.0 ∙ sym (ap (λ k. k.full_type.0.0) is), same.1 ∙ sym (ap (λ k. k.full_type.1.0) is))

pub length_given : {R : Type 0} (l : Layout R) (kind : NodeKind) (b : List ℕ) → kind ≡ node_kind l
    → HasLengthOf kind.size kind.rest (length b) → HasLength l b
length_given l kind b is long = subst (λ k. HasLengthOf k.size k.rest (length b)) is long

pub length_known : {R : Type 0} (l : Layout R) (kind : NodeKind) (b : List ℕ) → kind ≡ node_kind l → HasLength l b
    → HasLengthOf kind.size kind.rest (length b)
length_known l kind b is long = subst (λ k. HasLengthOf k.size k.rest (length b)) (sym is) long
