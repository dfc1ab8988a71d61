-- What readers test of the data of a node, and what they find there; and the parts that a writer puts.
use Rattle.std.specs.Prelude.{ℕ, ◌≡◌, ◌≤◌, ◌+◌, ◌-◌, List, [], ◌∷◌, ◌++◌, length, drop, slice_index, slice_range}
use Rattle.std.specs.Prelude.{Option, IfSome, IfNone, IsTrue}
use Rattle.std.specs.Prelude.{◌<◌, Result, IfOk, IfErr, OnOk, OnErr}
use Rattle.std.specs.Int.{from_le_bytes}
use Rattle.std.specs.Borrow.{Bor}
use Rattle.uefi_base.specs.Unaligned.{units_of, unit_bytes}
use Rattle.uefi_base.specs.Views.{slice_units}
use Rattle.uefi_base.specs.Buffer.{put_prefix}
use Rattle.uefi_path.specs.Node.{encoding}
use Rattle.uefi_path.specs.declared.build.error.BuildError.{BuildError}
use Rattle.uefi_path.specs.declared.build.error.BuildError.TheVariants.{Form as BuildForm, NodeTooBig, BufferTooSmall, EndEntire, Memory}
use Rattle.uefi_node.specs.declared.read.NodeKind.{NodeKind}
use Rattle.uefi_node.specs.declared.read.RestKind.{RestKind}
use Rattle.uefi_node.specs.declared.write.Tail.{Tail}
use Rattle.uefi_node.specs.declared.write.Tail.TheVariants.{Bytes as TailBytes, Parts as TailParts, Units as TailUnits}
use Rattle.uefi_node.specs.Layout.{Size, Field, byte, number, array, Rest, nothing, bytes, units, numbers, addresses, vendor, Layout}
use Rattle.uefi_node.specs.Layout.{width, size_of, field_size, fields_size, vendor_bytes, IsVendor, kind_of, RestLength, HasForm}

-- The number in bytes at an offset.
abbrev pub number_at : Size → List ℕ → ℕ → ℕ
number_at size b offset = from_le_bytes (width size) (slice_range b offset (offset + size_of size))

-- The value's field is what the bytes have at the offset.
abbrev pub FieldAt : {R : Type 0} → Field R → R → List ℕ → ℕ → Type 0
FieldAt (byte get) r b offset = get r ≡ slice_index b offset
FieldAt (number size get) r b offset = get r ≡ number_at size b offset
FieldAt (array n get) r b offset = get r ≡ slice_range b offset (offset + n)

abbrev pub FieldsAt : {R : Type 0} → List (Field R) → R → List ℕ → ℕ → Type 0
FieldsAt [] r b offset = Unit
FieldsAt (f ∷ fs) r b offset = FieldAt f r b offset × FieldsAt fs r b (offset + field_size f)

-- What follows the fields is these bytes.
abbrev pub RestIs : {R : Type 0} → Rest R → R → List ℕ → Type 0
RestIs nothing r b = Unit
RestIs (bytes get) r b = get r ≡ b
RestIs (units get) r b = get r ≡ units_of b
RestIs (numbers get) r b = get r ≡ b
RestIs (addresses get) r b = get r ≡ b
RestIs (vendor get) r b = IsVendor (get r) × (vendor_bytes (get r) ≡ b)

-- The bytes have the value.
pub record HasValue {R : Type 0} (l : Layout R) (r : R) (b : List ℕ) : Type 0 where
  pub fields : FieldsAt l.fields r b 0
  pub rest : RestIs l.rest r (drop (fields_size l.fields) b)
  pub value : IsTrue (l.is_value r)
  pub form : HasForm l.form b

-- At Some, the value that the bytes have; at None, they haven't the form.
pub record TakesValue {R : Type 0} (l : Layout R) (b : List ℕ) (taken : Option R) : Type 0 where
  pub some : IfSome taken (λ r. HasValue l r b)
  pub none : IfNone taken (¬ HasForm l.form b)

abbrev pub HasLengthOf : ℕ → RestKind → ℕ → Type 0
HasLengthOf size rest n = (size ≤ n) × RestLength rest (n - size)

-- The type of nodes of a layout, and how long its data are.
abbrev pub node_kind : {R : Type 0} → Layout R → NodeKind
node_kind l = record {
  full_type = (record { 0 = l.device_type }, record { 0 = l.sub_type });
  size = fields_size l.fields;
  rest = kind_of l.rest;
}

-- The bytes of the parts, in order.
abbrev pub parts_bytes : List (Bor (List ℕ)) → List ℕ
parts_bytes [] = []
parts_bytes (part ∷ parts) = part.now ++ parts_bytes parts

-- The bytes of what a writer puts after the fields.
abbrev pub tail_bytes : Tail → List ℕ
tail_bytes (TailBytes b) = b.now
tail_bytes (TailParts parts) = parts_bytes parts.now
tail_bytes (TailUnits slice) = unit_bytes (slice_units slice)

-- A node of this length is too long for a header, or for a buffer of this length.
abbrev pub HasLengthFault : ℕ → ℕ → BuildError → Type 0
HasLengthFault n room BuildForm = ⊥
HasLengthFault n room NodeTooBig = 0xffff < n
HasLengthFault n room (BufferTooSmall needed) = (n ≤ 0xffff) × (room < needed) × (needed ≡ n)
HasLengthFault n room EndEntire = ⊥
HasLengthFault n room Memory = ⊥

-- At Ok, the buffer starts with the node whose data are the fields and the tail; at Err, why it doesn't.
pub record WritesParts (device_type sub_type : ℕ) (fields tail old new : List ℕ) (result : Result ℕ BuildError)
    : Type 0 where
  pub small_type : device_type < 256
  pub small_sub_type : sub_type < 256
  pub end : IfOk result (λ n. n ≡ 4 + (length fields + length tail))
  pub small : IfOk result (λ n. n ≤ 0xffff)
  pub room : IfOk result (λ n. n ≤ length old)
  pub written : OnOk result (new ≡ put_prefix
      (encoding (record { device_type = device_type; sub_type = sub_type; payload = fields ++ tail })) old)
  pub unchanged : OnErr result (new ≡ old)
  pub err : IfErr result (HasLengthFault (4 + (length fields + length tail)) (length old))
