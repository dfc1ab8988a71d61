-- The laws of what the functions return that write to a builder's buffer.
use Rattle.uefi_base.proofs.WalkNames.{refl, usize, Laws, of_field, u64-field, u64-laws, copy_shared, u64-copy}
use Rattle.uefi_base.proofs.WalkNames.{Result_row, Result_laws}
use denote.RattleType.{RattleType}
use denote.Param.Laws.{IsCopy, of_copyable}
use Rattle.std.proofs.result.Result.TheLaws.{the_row_copy as Result_copy}
use Rattle.uefi_path.specs.contracts.build.error.BuildError.{the_row as Error_row}
use Rattle.uefi_path.proofs.build.error.BuildError.TheLaws.{the_row_laws as Error_laws, the_row_copy as Error_copy}

abbrev Length_laws : Laws usize
Length_laws = of_field u64-field u64-laws refl (copy_shared u64-field u64-copy)

-- A length, or the error of a builder.
abbrev pub Written_row : RattleType
Written_row = Result_row usize Error_row

abbrev pub Written_laws : Laws Written_row
Written_laws = Result_laws usize Error_row Length_laws Error_laws

abbrev pub Written_copy : IsCopy Written_row
Written_copy = Result_copy usize Error_row Length_laws Error_laws (of_copyable u64-field u64-copy) Error_copy
