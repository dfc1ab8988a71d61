-- The laws of what a writer returns that fails with a status and the length that was needed.
use Rattle.uefi_base.proofs.WalkNames.{refl, usize, Laws, of_field, u64-field, u64-laws, copy_shared, u64-copy}
use Rattle.uefi_base.proofs.WalkNames.{Result_row, Result_laws}
use denote.RattleType.{RattleType}
use Rattle.uefi_base.specs.contracts.status.Error.{the_row as Error_over}
use Rattle.uefi_base.proofs.status.Error.TheLaws.{the_row_laws as Error_over_laws}
use Rattle.std.specs.contracts.option.Option.{the_row as Option_row}
use Rattle.std.proofs.option.Option.TheLaws.{the_row_laws as Option_laws}

-- The laws of a length, of what a writer fails with, and of what it returns.
abbrev Length_laws : Laws usize
Length_laws = of_field u64-field u64-laws refl (copy_shared u64-field u64-copy)

abbrev pub Error_row : RattleType
Error_row = Error_over (Option_row usize)

abbrev pub Error_laws : Laws Error_row
Error_laws = Error_over_laws (Option_row usize) (Option_laws usize Length_laws)

abbrev pub Written_laws : Laws (Result_row usize Error_row)
Written_laws = Result_laws usize Error_row Length_laws Error_laws
