-- Paths that are written to a buffer (UEFI 2.10, 10.5.2).
use Rattle.std.specs.Prelude.{ℕ, ◌≡◌, ◌+◌, ◌≤◌, ◌<◌, List, [], ◌∷◌, ◌++◌, length}
use Rattle.uefi_path.specs.Node.{Node, end_entire}
use Rattle.uefi_path.specs.Path.{all_but_last}
use Rattle.uefi_path.specs.Header.{header_length}
use Rattle.uefi_c.specs.declared.path.UefiNode.{UefiNode}
use Rattle.uefi_c.specs.Status.{buffer_too_small, ok}

-- The length of the node with its header fits the header's two bytes.
abbrev pub FitsLength : UefiNode → Type 0
FitsLength node = header_length + length node.data.now ≤ 0xffff

-- The nodes before the end of a path, then the node and an end ("AppendDeviceNode").
abbrev pub with_node : List Node → Node → List Node
with_node nodes node = all_but_last nodes ++ node ∷ end_entire ∷ []

-- The nodes before the end of a path, then those of the other path ("AppendDevicePath").
abbrev pub with_path : List Node → List Node → List Node
with_path nodes others = all_but_last nodes ++ others

-- So many bytes are needed: that is the size, and by it the call succeeds or the buffer is too small.
pub record IsNeeded (needed room size status : ℕ) : Type 0 where
  pub is_size : size ≡ needed
  pub enough : status ≡ ok → needed ≤ room
  pub short : status ≡ buffer_too_small → room < needed
