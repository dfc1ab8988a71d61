-- The layout of a type of nodes (UEFI 2.10, 10.3): its numbers, the fields of its data at fixed offsets, and what
-- follows them.
use Rattle.std.specs.Prelude.{ℕ, ◌≡◌, ◌<◌, ◌≤◌, ◌+◌, ◌%◌, ◌^◌, ◌==◌, ◌&&◌, nat_le, List, [], ◌∷◌, ◌++◌, length, drop, slice_index, Bool, true, IsTrue, Option, Some, None}
use Rattle.std.specs.Int.{Width, w16, w32, w64, to_le_bytes}
use Rattle.std.specs.List.{AllByRecursion}
use Rattle.uefi_base.specs.Unaligned.{AreUnits, unit_bytes}
use Rattle.uefi_path.specs.Node.{Node}
use Rattle.uefi_node.specs.NulStrings.{AreStrings}
use Rattle.uefi_node.specs.declared.read.RestKind.{RestKind}
use Rattle.uefi_node.specs.declared.read.RestKind.TheVariants.{Nothing, Bytes, Units, Numbers, Addresses}

-- The size of a number: two, four or eight bytes.
pub data Size : Type 0 where
  two : Size
  four : Size
  eight : Size

-- A field of a value: a byte; a number, little-endian; or this many bytes.
pub data Field (R : Type 0) : Type 0 where
  byte : (R → ℕ) → Field R
  number : Size → (R → ℕ) → Field R
  array : ℕ → (R → List ℕ) → Field R

-- What the data of a type have to be beside their length: anything; three strings after twelve bytes; or, by the
-- first byte, a vendor's GUID with its data or nothing after two bytes.
pub data Form : Type 0 where
  any : Form
  three_strings : Form
  vendor_or_none : Form

-- What follows the fields: nothing; any bytes; units of 16 bits; the bytes of one or more numbers of four bytes; the
-- bytes of addresses, of 16 each; or a GUID and any bytes, if the value has them, and else nothing.
pub data Rest (R : Type 0) : Type 0 where
  nothing : Rest R
  bytes : (R → List ℕ) → Rest R
  units : (R → List ℕ) → Rest R
  numbers : (R → List ℕ) → Rest R
  addresses : (R → List ℕ) → Rest R
  vendor : (R → Option (List ℕ × List ℕ)) → Rest R

-- A type of nodes: its type and subtype, the layout of its data, and which values it has.
pub record Layout (R : Type 0) : Type 0 where
  pub device_type : ℕ
  pub sub_type : ℕ
  pub fields : List (Field R)
  pub rest : Rest R
  pub form : Form
  pub is_value : R → Bool

-- A type that has any value.
abbrev pub layout : {R : Type 0} → ℕ → ℕ → List (Field R) → Rest R → Layout R
layout device_type sub_type fields rest = record {
  device_type = device_type;
  sub_type = sub_type;
  fields = fields;
  rest = rest;
  form = any;
  is_value = λ r. true;
}

-- How many bytes a number has, and its width.
abbrev pub width : Size → Width
width two = w16
width four = w32
width eight = w64

abbrev pub size_of : Size → ℕ
size_of two = 2
size_of four = 4
size_of eight = 8

abbrev pub limit : Size → ℕ
limit two = 2 ^ 16
limit four = 2 ^ 32
limit eight = 2 ^ 64

-- How many bytes a field has, and which.
abbrev pub field_size : {R : Type 0} → Field R → ℕ
field_size (byte get) = 1
field_size (number size get) = size_of size
field_size (array n get) = n

abbrev pub field_bytes : {R : Type 0} → Field R → R → List ℕ
field_bytes (byte get) r = get r ∷ []
field_bytes (number size get) r = to_le_bytes (width size) (get r)
field_bytes (array n get) r = get r

-- The value fits the field.
abbrev pub FieldFits : {R : Type 0} → R → Field R → Type 0
FieldFits r (byte get) = get r < 256
FieldFits r (number size get) = get r < limit size
FieldFits r (array n get) = length (get r) ≡ n

-- The same of all fields.
abbrev pub fields_size : {R : Type 0} → List (Field R) → ℕ
fields_size [] = 0
fields_size (f ∷ fs) = field_size f + fields_size fs

abbrev pub fields_bytes : {R : Type 0} → List (Field R) → R → List ℕ
fields_bytes [] r = []
fields_bytes (f ∷ fs) r = field_bytes f r ++ fields_bytes fs r

-- The bytes of a GUID and what follows it, or none.
abbrev pub vendor_bytes : Option (List ℕ × List ℕ) → List ℕ
vendor_bytes None = []
vendor_bytes (Some (guid, more)) = guid ++ more

-- The GUID has 16 bytes.
abbrev pub IsVendor : Option (List ℕ × List ℕ) → Type 0
IsVendor None = Unit
IsVendor (Some (guid, more)) = length guid ≡ 16

-- The bytes that follow the fields.
abbrev pub rest_bytes : {R : Type 0} → Rest R → R → List ℕ
rest_bytes nothing r = []
rest_bytes (bytes get) r = get r
rest_bytes (units get) r = unit_bytes (get r)
rest_bytes (numbers get) r = get r
rest_bytes (addresses get) r = get r
rest_bytes (vendor get) r = vendor_bytes (get r)

-- So many bytes can follow the fields.
abbrev pub kind_of : {R : Type 0} → Rest R → RestKind
kind_of nothing = Nothing
kind_of (bytes get) = Bytes
kind_of (units get) = Units
kind_of (numbers get) = Numbers
kind_of (addresses get) = Addresses
kind_of (vendor get) = Bytes

abbrev pub RestLength : RestKind → ℕ → Type 0
RestLength Nothing n = n ≡ 0
RestLength Bytes n = Unit
RestLength Units n = n % 2 ≡ 0
RestLength Numbers n = (4 ≤ n) × (n % 4 ≡ 0)
RestLength Addresses n = n % 16 ≡ 0

-- The same as a test.
abbrev pub is_rest_length : RestKind → ℕ → Bool
is_rest_length Nothing n = n == 0
is_rest_length Bytes n = true
is_rest_length Units n = n % 2 == 0
is_rest_length Numbers n = nat_le 4 n && n % 4 == 0
is_rest_length Addresses n = n % 16 == 0

-- The value fits what follows the fields.
abbrev pub RestFits : {R : Type 0} → Rest R → R → Type 0
RestFits nothing r = Unit
RestFits (bytes get) r = Unit
RestFits (units get) r = AreUnits (get r)
RestFits (numbers get) r = (4 ≤ length (get r)) × (length (get r) % 4 ≡ 0)
RestFits (addresses get) r = length (get r) % 16 ≡ 0
RestFits (vendor get) r = IsVendor (get r)

-- The data of the value.
unfoldable pub value_bytes : {R : Type 0} → Layout R → R → List ℕ
value_bytes l r = fields_bytes l.fields r ++ rest_bytes l.rest r

-- The type has the value, whatever numbers its fields are.
abbrev pub IsValue : {R : Type 0} → Layout R → R → Type 0
IsValue l r = IsTrue (l.is_value r)

-- Whose data the bytes can be: those of a vendor, by the type of the service, and then their length.
pub record IsService (kind length : ℕ) : Type 0 where
  pub vendor : kind ≡ 0xff → 18 ≤ length
  pub others : (kind ≡ 0xff → ⊥) → length ≡ 2

-- The data have the form.
abbrev pub HasForm : Form → List ℕ → Type 0
HasForm any payload = Unit
HasForm three_strings payload = (first second third : List ℕ) × AreStrings (drop 12 payload) first second third
HasForm vendor_or_none payload = IsService (slice_index payload 0) (length payload)

-- The type has the value, and its fields fit.
pub record FitsLayout {R : Type 0} (l : Layout R) (r : R) : Type 0 where
  pub fields : AllByRecursion (FieldFits r) l.fields
  pub rest : RestFits l.rest r
  pub value : IsValue l r
  pub form : HasForm l.form (value_bytes l r)

-- The node of the value.
abbrev pub node_as : {R : Type 0} → Layout R → R → Node
node_as l r = record { device_type = l.device_type; sub_type = l.sub_type; payload = value_bytes l r }

-- The node is that of the value.
abbrev pub IsNodeAs : {R : Type 0} → Layout R → R → Node → Type 0
IsNodeAs l r node = FitsLayout l r × (node ≡ node_as l r)
