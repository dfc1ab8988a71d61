-- Nodes and instances of device paths (UEFI 2.10, 10.3.1), as a cursor over a path's bytes gives them.
use Rattle.std.specs.Prelude.{ℕ, ◌≡◌, ◌⊎◌, List, length}
use Rattle.uefi_path.specs.Node.{Node, Fits, encoding, joined, IsEnd, IsEndEntire}
use Rattle.uefi_base.specs.Prefix.{IsPrefix}
use Rattle.uefi_path.specs.Path.{IsInstance, IsPath}
use Rattle.uefi_c.specs.declared.path.UefiNode.{UefiNode}
use Rattle.uefi_c.specs.Cursor.{Stands}

abbrev pub node_seen : UefiNode → Node
node_seen view = record { device_type = view.device_type; sub_type = view.sub_type; payload = view.data.now }

-- The bytes begin with the path of these nodes.
abbrev pub BeginsWithPath : List ℕ → List Node → Type 0
BeginsWithPath bytes nodes = IsPath nodes × IsPrefix (joined nodes) bytes

-- The node ends a walk: it is end-entire, or it has the type END and the bytes end after it, as those of an instance do.
abbrev pub EndsWalk : Node → Type 0 → Type 0
EndsWalk node bytes_end = IsEndEntire node ⊎ (bytes_end × IsEnd node)

-- The node stands there, and doesn't end the walk.
pub record IsNextNode (bytes : List ℕ) (start : ℕ) (node : Node) (end : ℕ) : Type 0 where
  pub fits : Fits node
  pub stands : Stands (encoding node) bytes start end
  pub goes_on : EndsWalk node (end ≡ length bytes) → ⊥

-- The part is the encoding of an instance, and stands there.
pub record IsNextInstance (bytes : List ℕ) (start : ℕ) (part : List ℕ) (end : ℕ) : Type 0 where
  pub nodes : List Node
  pub is_instance : IsInstance nodes
  pub encoded : part ≡ joined nodes
  pub stands : Stands part bytes start end

-- Some prefix of the bytes is an instance.
abbrev pub HasInstance : List ℕ → Type 0
HasInstance bytes = (nodes : List Node) × IsInstance nodes × IsPrefix (joined nodes) bytes
