-- The arguments of a writer that are times and attributes.
use mathlib.Core.Path.{refl}
use Rattle.uefi_base.proofs.WriterArgs.{Arg, declared}
use Rattle.uefi_records.specs.contracts.time.Time.{the_row as Time_row}
use Rattle.uefi_records.proofs.time.Time.TheLaws.{the_row_laws as Time_laws, the_told as Time_told}
use Rattle.uefi_records.specs.contracts.flags.file_attribute.FileAttribute.{the_row as Attribute_row}
use Rattle.uefi_records.proofs.flags.file_attribute.FileAttribute.TheLaws.{the_row_laws as Attribute_laws}
use Rattle.uefi_records.proofs.flags.file_attribute.FileAttribute.TheLaws.{the_told as Attribute_told}

abbrev pub time : Arg 3
time = declared Time_row (λ x f. refl) Time_told Time_laws

abbrev pub attributes : Arg 3
attributes = declared Attribute_row (λ x f. refl) Attribute_told Attribute_laws
