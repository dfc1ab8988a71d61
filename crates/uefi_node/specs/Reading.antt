-- What reading a node as a value returns.
use Rattle.std.specs.Prelude.{ℕ, ◌≡◌, ◌≤◌, ◌-◌, List, length, Result, IfOk, IfErr, OnErr}
use Rattle.uefi_path.specs.Node.{Node}
use Rattle.uefi_node.specs.Layout.{Layout, fields_size, kind_of, RestLength, HasForm, IsNodeAs}
use Rattle.uefi_node.specs.declared.error.NodeConversionError.{NodeConversionError}
use Rattle.uefi_node.specs.declared.error.NodeConversionError.TheVariants.{DifferentType, UnsupportedType, Length, Form}

-- The node has the type and the subtype.
abbrev pub HasType : {R : Type 0} → Layout R → Node → Type 0
HasType l node = (node.device_type ≡ l.device_type) × (node.sub_type ≡ l.sub_type)

-- The data are as long as those of some node of the type.
abbrev pub HasLength : {R : Type 0} → Layout R → List ℕ → Type 0
HasLength l payload =
    (fields_size l.fields ≤ length payload) × RestLength (kind_of l.rest) (length payload - fields_size l.fields)

-- Why a node is none of the type: it has another type or subtype; its data have another length than those of the type;
-- or they haven't its form.
abbrev pub HasReadingFault : {R : Type 0} → Layout R → Node → NodeConversionError → Type 0
HasReadingFault l node DifferentType = ¬ HasType l node
HasReadingFault l node UnsupportedType = ⊥
HasReadingFault l node Length = HasType l node × ¬ HasLength l node.payload
HasReadingFault l node Form = HasType l node × HasLength l node.payload × ¬ HasForm l.form node.payload

-- At Ok, the value whose node this is; at Err, why it is that of none.
pub record ReadsAs {R : Type 0} (l : Layout R) (node : Node) (read : Result R NodeConversionError) : Type 0 where
  pub ok : IfOk read (λ r. IsNodeAs l r node)
  pub err : IfErr read (HasReadingFault l node)
  pub none : OnErr read ((r : R) → IsNodeAs l r node → ⊥)
