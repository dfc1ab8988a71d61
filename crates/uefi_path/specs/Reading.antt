-- What the readers return.
use Rattle.std.specs.Prelude.{◌≡◌, ℕ, List, IfOk, OnErr, Result}
use Rattle.uefi_path.specs.Node.{Node, Fits, encoding, joined, HasNode}
use Rattle.uefi_base.specs.Prefix.{IsPrefix}
use Rattle.uefi_path.specs.Path.{IsPath, HasPath}

-- At Ok, the only node that is a prefix of the bytes; at Err, no node is.
pub record ReadsNode {V E : Type 0} (node_of : V → Node) (bytes : List ℕ) (read : Result V E) : Type 0 where
  pub ok : IfOk read (λ view. Fits (node_of view) × IsPrefix (encoding (node_of view)) bytes)
  pub only : IfOk read (λ view. (node : Node) → Fits node → IsPrefix (encoding node) bytes → node ≡ node_of view)
  pub err : OnErr read (¬ HasNode bytes)

-- At Ok, the only path that is a prefix of the bytes; at Err, no path is.
pub record ReadsPath {V E : Type 0} (nodes_of : V → List Node) (bytes : List ℕ) (read : Result V E) : Type 0 where
  pub ok : IfOk read (λ view. IsPath (nodes_of view) × IsPrefix (joined (nodes_of view)) bytes)
  pub only : IfOk read (λ view. (path : List Node) → IsPath path → IsPrefix (joined path) bytes → path ≡ nodes_of view)
  pub err : OnErr read (¬ HasPath bytes)
