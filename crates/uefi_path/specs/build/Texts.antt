-- The text that Display writes for errors of building.
use Rattle.std.specs.Prelude.{ℕ, List, ◌++◌, codes}
use Rattle.std.specs.Fmt.{decimal}
use Rattle.uefi_path.specs.declared.build.error.BuildError.{BuildError}
use Rattle.uefi_path.specs.declared.build.error.BuildError.TheVariants.{Form, NodeTooBig, BufferTooSmall, EndEntire, Memory}

abbrev pub build_error_text : BuildError → List ℕ
build_error_text Form = codes "no node of its type has the value"
build_error_text NodeTooBig = codes "a node of more than 65535 bytes"
build_error_text (BufferTooSmall needed) = codes "the buffer is shorter than " ++ decimal needed ++ codes " bytes"
build_error_text EndEntire = codes "an end-entire node before the end of the path"
build_error_text Memory = codes "out of memory"
