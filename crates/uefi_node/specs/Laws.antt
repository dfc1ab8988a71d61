-- Laws of typed nodes.
use Rattle.std.specs.Prelude.{◌≡◌, ℕ, List, length, Result, IsTrue}
use Rattle.std.specs.Result.{IsOkAnd}
use Rattle.std.specs.List.{AllByRecursion}
use Rattle.uefi_node.specs.Layout.{Field, byte, number, array, Rest, nothing, bytes, units, numbers, addresses, vendor}
use Rattle.uefi_node.specs.Layout.{Layout, FitsLayout, node_as}
use Rattle.uefi_node.specs.Reading.{ReadsAs}
use Rattle.uefi_node.specs.NulStrings.{strings_bytes, AreStrings}
use Rattle.uefi_node.specs.Signature.{type_of_signature, signature_bytes, is_signature}
use Rattle.uefi_node.specs.declared.error.NodeConversionError.{NodeConversionError}
use Rattle.uefi_node.specs.declared.media.partition_signature.PartitionSignature.{PartitionSignature}

-- The values have the same field, and the same after the fields.
abbrev pub SameField : {R : Type 0} → R → R → Field R → Type 0
SameField a b (byte get) = get a ≡ get b
SameField a b (number size get) = get a ≡ get b
SameField a b (array n get) = get a ≡ get b

abbrev pub SameRest : {R : Type 0} → Rest R → R → R → Type 0
SameRest nothing a b = Unit
SameRest (bytes get) a b = get a ≡ get b
SameRest (units get) a b = get a ≡ get b
SameRest (numbers get) a b = get a ≡ get b
SameRest (addresses get) a b = get a ≡ get b
SameRest (vendor get) a b = get a ≡ get b

-- The values are the same in all that a node has of them.
pub record SameValue {R : Type 0} (l : Layout R) (a b : R) : Type 0 where
  pub fields : AllByRecursion (SameField a b) l.fields
  pub rest : SameRest l.rest a b

-- A node is that of one value.
abbrev pub OneValue : {R : Type 0} → Layout R → Type 0
OneValue {R} l = (a b : R) → FitsLayout l a → FitsLayout l b → node_as l a ≡ node_as l b → SameValue l a b

-- Nodes of a type and its values correspond: a node is that of one value, and the node of a value is read as it.
pub record IsFaithful {R : Type 0} (l : Layout R) : Type 0 where
  pub one_value : OneValue l
  pub reads_back : (r : R) (read : Result R NodeConversionError) → FitsLayout l r → ReadsAs l (node_as l r) read
      → IsOkAnd read (SameValue l r)

-- A type and 16 bytes are those of one signature.
abbrev pub OneSignature : Type 0
OneSignature = (a b : PartitionSignature) → IsTrue (is_signature a) → IsTrue (is_signature b)
    → length (signature_bytes a) ≡ 16 → length (signature_bytes b) ≡ 16 → type_of_signature a ≡ type_of_signature b
    → signature_bytes a ≡ signature_bytes b → a ≡ b

-- Bytes are three strings in one way.
abbrev pub OneWayToSplit : Type 0
OneWayToSplit = (a b c x y z : List ℕ) → AreStrings (strings_bytes x y z) a b c → AreStrings (strings_bytes a b c) x y z
    → (a ≡ x) × (b ≡ y) × (c ≡ z)
