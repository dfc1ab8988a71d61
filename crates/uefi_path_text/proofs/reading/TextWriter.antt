-- What the walk through the writer of a path's text cites: its argument, and the laws of what it returns.
use Rattle.uefi_base.proofs.WalkNames.{[], ◌∷◌, refl, named, u8, usize, Laws, of_field, u64-field, u64-laws, copy_shared}
use Rattle.uefi_base.proofs.WalkNames.{u64-copy, Result_row, Result_laws, ShrSlice}
use Rattle.uefi_base.proofs.WriterArgs.{Arg}
use denote.Slice.{shr_slice_vals, shr_slice_Tells, shr_slice_Lawful}
use denote.Such.{such_Tells, such_Lawful}
use denote.Text.{StrRefOf, Utf8}
pub use Rattle.uefi_path_text.specs.contracts.parse.error.FromTextError.{the_row as Error_row}
pub use Rattle.uefi_path_text.proofs.parse.error.FromTextError.TheLaws.{the_row_laws as Error_laws}

-- A `&str`, borrowed for the second of two lifetimes.
abbrev pub borrowed_text : Arg 2
borrowed_text = record {
  slot = StrRefOf (1 ∷ []) tt;
  silent = λ κs x f. refl;
  vals = λ κs. shr_slice_vals;
  tells = λ κs. such_Tells (ShrSlice (named 1) κs.1.0 u8) (λ x. Utf8 x.now) (λ x cs. (tt, tt)) shr_slice_vals
      (shr_slice_Tells (named 1) κs.1.0 u8);
  lawful = λ 𝓛 κs. such_Lawful (ShrSlice (named 1) κs.1.0 u8) (λ x. Utf8 x.now) (λ x cs. (tt, tt)) 𝓛
      (shr_slice_Lawful 𝓛 (named 1) κs.1.0 u8);
}

-- The laws of what the writer returns.
abbrev pub Written_laws : Laws (Result_row usize Error_row)
Written_laws = Result_laws usize Error_row
    (of_field u64-field u64-laws refl (copy_shared u64-field u64-copy)) Error_laws
