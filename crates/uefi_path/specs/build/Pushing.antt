-- Why a node isn't pushed onto a path that is being built.
use Rattle.std.specs.Prelude.{◌≡◌, ℕ, ◌+◌, ◌≤◌, ◌<◌, length}
use Rattle.uefi_path.specs.Node.{Node, encoding, IsEndEntire}
use Rattle.uefi_path.specs.declared.build.error.BuildError.{BuildError}
use Rattle.uefi_path.specs.declared.build.error.BuildError.TheVariants.{Form, NodeTooBig, BufferTooSmall, EndEntire, Memory}
use Rattle.uefi_path.specs.build.Writing.{greatest_length}

-- The value isn't the end-entire node, some node has it, and a header can state the length of the node.
pub record CanBePushed (IsValid : Type 0) (node : Node) : Type 0 where
  pub goes_on : ¬ IsEndEntire node
  pub valid : IsValid
  pub short : length (encoding node) ≤ greatest_length

-- Why a value isn't pushed into a buffer of this size, after nodes of this length: it is an end-entire node; or no
-- node has it; or its node is too long for a header, or for the buffer.
abbrev pub HasBufferFault : Type 0 → Node → ℕ → ℕ → BuildError → Type 0
HasBufferFault IsValid node before size Form = ¬ IsEndEntire node × ¬ IsValid
HasBufferFault IsValid node before size NodeTooBig = ¬ IsEndEntire node × IsValid
    × (greatest_length < length (encoding node))
HasBufferFault IsValid node before size (BufferTooSmall needed) = CanBePushed IsValid node × (size < needed)
    × (needed ≡ before + length (encoding node))
HasBufferFault IsValid node before size EndEntire = IsEndEntire node
HasBufferFault IsValid node before size Memory = ⊥

-- Why a value isn't pushed into a vector: the same, but that an allocation fails where a buffer is too short.
abbrev pub HasVectorFault : Type 0 → Node → BuildError → Type 0
HasVectorFault IsValid node Form = ¬ IsEndEntire node × ¬ IsValid
HasVectorFault IsValid node NodeTooBig = ¬ IsEndEntire node × IsValid × (greatest_length < length (encoding node))
HasVectorFault IsValid node (BufferTooSmall needed) = ⊥
HasVectorFault IsValid node EndEntire = IsEndEntire node
HasVectorFault IsValid node Memory = CanBePushed IsValid node

-- The error of a buffer of this size that is too short for a path of this length.
abbrev pub IsTooShortFor : ℕ → ℕ → BuildError → Type 0
IsTooShortFor length size Form = ⊥
IsTooShortFor length size NodeTooBig = ⊥
IsTooShortFor length size (BufferTooSmall needed) = (size < needed) × (needed ≡ length)
IsTooShortFor length size EndEntire = ⊥
IsTooShortFor length size Memory = ⊥
