-- What a view keeps of its bytes: that they encode a node, nodes, instances or a load option.
use Rattle.std.specs.Prelude.{◌≡◌, ℕ, List}
use Rattle.std.specs.List.{AllByRecursion}
use Rattle.uefi_base.specs.Prefix.{IsPrefix}
use Rattle.uefi_path.specs.LoadOption.{LoadOption, IsLoadOption, load_option_bytes}
use Rattle.uefi_path.specs.Node.{Node, Fits, encoding, joined, IsEnd, IsEndEntire}
use Rattle.uefi_path.specs.Path.{AreEndedBy, AreBefore, IsInstance, concat}

-- The fields of each node fit its encoding.
abbrev pub AreNodes : List Node → Type 0
AreNodes nodes = AllByRecursion Fits nodes

-- Some prefix of the bytes is nodes of which only the last satisfies P.
abbrev pub HasNodes : (Node → Type 0) → List ℕ → Type 0
HasNodes P bytes = (nodes : List Node) × AreEndedBy P nodes × IsPrefix (joined nodes) bytes

-- The bytes are the encoding of the node.
pub record IsEncodingOfNode (bytes : List ℕ) (node : Node) : Type 0 where
  pub fits : Fits node
  pub encoded : bytes ≡ encoding node

-- The bytes are the encoding of the nodes, of which only the last satisfies P.
pub record IsEncodingOfNodes (P : Node → Type 0) (bytes : List ℕ) (nodes : List Node) : Type 0 where
  pub ended : AreEndedBy P nodes
  pub encoded : bytes ≡ joined nodes

-- The bytes are the encoding of nodes that may precede the end-entire one.
pub record IsEncodingBefore (bytes : List ℕ) (nodes : List Node) : Type 0 where
  pub before : AreBefore IsEndEntire nodes
  pub encoded : bytes ≡ joined nodes

-- The bytes are the encoding of the instances.
pub record IsEncodingOfInstances (bytes : List ℕ) (instances : List (List Node)) : Type 0 where
  pub each : AllByRecursion IsInstance instances
  pub encoded : bytes ≡ joined (concat instances)

-- The bytes are the encoding of the load option.
pub record IsEncodingOfOption (bytes : List ℕ) (option : LoadOption) : Type 0 where
  pub is : IsLoadOption option
  pub encoded : bytes ≡ load_option_bytes option

-- The bytes encode a node.
abbrev pub EncodesNode : List ℕ → Type 0
EncodesNode bytes = (node : Node) × IsEncodingOfNode bytes node

-- The bytes encode nodes of which only the last satisfies P.
abbrev pub EncodesNodes : (Node → Type 0) → List ℕ → Type 0
EncodesNodes P bytes = (nodes : List Node) × IsEncodingOfNodes P bytes nodes

-- The bytes encode a path, an instance or a list of instances.
abbrev pub EncodesPath : List ℕ → Type 0
EncodesPath = EncodesNodes IsEndEntire

abbrev pub EncodesInstance : List ℕ → Type 0
EncodesInstance = EncodesNodes IsEnd

-- The bytes encode nodes that may precede the end-entire one.
abbrev pub EncodesBefore : List ℕ → Type 0
EncodesBefore bytes = (nodes : List Node) × IsEncodingBefore bytes nodes

abbrev pub EncodesInstances : List ℕ → Type 0
EncodesInstances bytes = (instances : List (List Node)) × IsEncodingOfInstances bytes instances

-- The bytes encode a load option.
abbrev pub EncodesOption : List ℕ → Type 0
EncodesOption bytes = (option : LoadOption) × IsEncodingOfOption bytes option
