-- Nodes of device paths, and their encodings (UEFI 2.10, 10.3.1 "Generic Device Path Structures").
use Rattle.std.specs.Prelude.{◌≡◌, ℕ, ◌+◌, ◌≤◌, ◌<◌, List, [], ◌∷◌, ◌++◌, length}
use Rattle.std.specs.Int.{w16, to_le_bytes}
use Rattle.std.specs.List.{flat_map}
use Rattle.uefi_base.specs.Prefix.{IsPrefix}

-- A node: its type, its subtype and its data.
pub record Node : Type 0 where
  pub device_type : ℕ
  pub sub_type : ℕ
  pub payload : List ℕ

-- The fields fit the encoding: the type and the subtype are bytes, and the length of the whole node has two bytes.
pub record Fits (node : Node) : Type 0 where
  pub device_type : node.device_type < 256
  pub sub_type : node.sub_type < 256
  pub payload : 4 + length node.payload ≤ 0xffff

-- The encoding of a node: a header of four bytes, the type, the subtype and the length of the whole node in two
-- bytes, little-endian; and then the data.
abbrev pub encoding : Node → List ℕ
encoding node = node.device_type ∷ node.sub_type ∷ to_le_bytes w16 (4 + length node.payload) ++ node.payload

-- The encodings of nodes, in order.
abbrev pub joined : List Node → List ℕ
joined nodes = flat_map encoding nodes

-- The node ends an instance: it has the type END.
abbrev pub IsEnd : Node → Type 0
IsEnd node = node.device_type ≡ 0x7f

-- The node ends the path: it has the type END and the subtype END_ENTIRE, whatever its data is.
abbrev pub IsEndEntire : Node → Type 0
IsEndEntire node = (node.device_type ≡ 0x7f) × (node.sub_type ≡ 0xff)

-- The end-entire node without data, and the node without data that ends an instance before another one.
abbrev pub end_entire : Node
end_entire = record { device_type = 0x7f; sub_type = 0xff; payload = [] }

abbrev pub end_instance : Node
end_instance = record { device_type = 0x7f; sub_type = 0x01; payload = [] }

-- Some prefix of the bytes is a node.
abbrev pub HasNode : List ℕ → Type 0
HasNode bytes = (node : Node) × Fits node × IsPrefix (encoding node) bytes
