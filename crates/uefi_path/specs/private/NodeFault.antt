-- Why a value has no node, whatever room there is.
use Rattle.std.specs.Prelude.{◌<◌, length}
use Rattle.uefi_path.specs.Node.{Node, encoding}
use Rattle.uefi_path.specs.build.Writing.{greatest_length}
use Rattle.uefi_path.specs.declared.build.error.BuildError.{BuildError}
use Rattle.uefi_path.specs.declared.build.error.BuildError.TheVariants.{Form, NodeTooBig, BufferTooSmall, EndEntire, Memory}

abbrev pub HasNodeFault : Type 0 → Node → BuildError → Type 0
HasNodeFault IsValid node Form = ¬ IsValid
HasNodeFault IsValid node NodeTooBig = IsValid × (greatest_length < length (encoding node))
HasNodeFault IsValid node (BufferTooSmall needed) = ⊥
HasNodeFault IsValid node EndEntire = ⊥
HasNodeFault IsValid node Memory = ⊥
