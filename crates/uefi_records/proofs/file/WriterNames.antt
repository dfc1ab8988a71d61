-- What a walk through a writer of a record cites, beside the record's own.
pub use Rattle.uefi_base.proofs.WalkNames.{◌≡◌, refl, ℕ, List, [], ◌∷◌, full_share, ftrue, flft, id⊢, named, tables, ‵}
pub use Rattle.uefi_base.proofs.WalkNames.{◌⊛◌, ◌$◌, ◌∵◌, !, qed, done, keep, fsplit, suffices, whole, sub, agg, enter}
pub use Rattle.uefi_base.proofs.WalkNames.{addr, from, fld, hop, stop, and_then, no_more, returns, alloc_all, pass_all}
pub use Rattle.uefi_base.proofs.WalkNames.{free_all, look_at, look_in_at, get, get_in, sets, lands_as, length, u8}
pub use Rattle.uefi_base.proofs.WalkNames.{usize, no, owns, plain, mut_slice_of, named_lft, mut_slice_vals}
pub use Rattle.uefi_base.proofs.WalkNames.{mut_slice_Tells, lasts, triple_of, framed, Stays, walk_of, stay_dropped}
pub use Rattle.uefi_base.proofs.WalkNames.{Goes-spent_slice, ends_at, Laws, of_field, copy_shared, u64-field, u64-laws}
pub use Rattle.uefi_base.proofs.WalkNames.{u64-copy, MatchResult, Result_row, Result_laws, proved, as_bor}
pub use base.Fml.{Fml}
pub use denote.Signature.{types_at}
pub use denote.Laws.{valss, all_Typed}
pub use denote.Slice.{mut_slice_Lawful}
pub use Rattle.uefi_base.specs.Buffer.{put_prefix}
pub use Rattle.uefi_records.specs.contracts.file.creation_error.FileInfoCreationError.{the_row as Error_row}
pub use Rattle.uefi_records.proofs.file.creation_error.FileInfoCreationError.TheLaws.{the_row_laws as Error_laws}
pub use Rattle.uefi_base.proofs.WriterWalk.{lends_to, shares_with, typed, finishes, opens}
pub use Rattle.uefi_base.proofs.WriterArgs.{Arg, number64, number32, truth, text16, slots, stays, spelled, told, all_go}
pub use Rattle.uefi_base.proofs.WriterArgs.{lawfuls, Nothings, nothings}
pub use Rattle.uefi_records.proofs.file.Written.{WroteRecord, MadeRecord, record_seen_in, record_made_of}

-- The laws of what a writer returns.
abbrev pub Written_laws : Laws (Result_row usize Error_row)
Written_laws = Result_laws usize Error_row
    (of_field u64-field u64-laws refl (copy_shared u64-field u64-copy)) Error_laws
