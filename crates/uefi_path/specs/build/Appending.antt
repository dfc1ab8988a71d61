-- Why a node isn't appended to a path.
use Rattle.uefi_path.specs.Node.{Node, IsEndEntire}
use Rattle.uefi_path.specs.declared.build.error.BuildError.{BuildError}
use Rattle.uefi_path.specs.declared.build.error.BuildError.TheVariants.{Form, NodeTooBig, BufferTooSmall, EndEntire, Memory}

-- Why a node isn't appended to a path: it is an end-entire node; or it isn't one, and an allocation failed.
abbrev pub HasAppendingFault : Node → BuildError → Type 0
HasAppendingFault node Form = ⊥
HasAppendingFault node NodeTooBig = ⊥
HasAppendingFault node (BufferTooSmall needed) = ⊥
HasAppendingFault node EndEntire = IsEndEntire node
HasAppendingFault node Memory = ¬ IsEndEntire node
