-- The names that the proof of a writer imports.
pub use mathlib.Core.Path.{◌≡◌, refl}
pub use Prim.Native.Nat.{ℕ}
pub use mathlib.Core.List.{List, [], ◌∷◌}
pub use lib.ListN.{length}
pub use base.Fraction.{full_share}
pub use base.Fml.{ftrue, flft}
pub use base.Logic.{emp, id⊢}
pub use mir.Syntax.{named, w64}
pub use contract.Monad.{fact, fact_i}
pub use contract.Running.{tables}
pub use types.Kit.{‵, raw, ◌⊛◌, some, later, ◌$◌, ◌∵◌, !, qed, done, move, keep, drop, use0, use1, use2, split, join}
pub use types.Kit.{fsplit, fjoin, pick, await, suffices, frame}
pub use types.Part.{whole, sub, agg}
pub use types.Run.{enter, addr, from, fld, hop, stop, and_then, no_more, returns}
pub use types.ByLocal.{alloc_all, pass_all, free_all, look_at, look_in_at, get, get_in, sets, lands_as}
pub use denote.Builtin.{u8, usize, bool}
pub use denote.Exit.{no, yes}
pub use denote.Laws.{Is, shows}
pub use denote.Ref.{as_bor}
pub use denote.Plain.{uint_vals, bool_Tells}
pub use denote.RattleType.{owns}
pub use denote.Signature.{plain, mut_slice_of, named_lft}
pub use denote.Slice.{MutSlice, ShrSlice, mut_slice_vals, mut_slice_Tells}
pub use denote.Steps.{nothing, heard, peeks}
pub use denote.Triple.Call.{calls_at}
pub use denote.Triple.Clauses.{lasts}
pub use denote.Triple.Spec.{triple_of}
pub use denote.Triple.Table.{framed}
pub use denote.Triple.Walked.{Stays, walk_of, stay_dropped, Goes-dropped, Goes-spent_slice, ends_at}
pub use denote.Param.Laws.{Laws, of_field}
pub use denote.Param.Shared.{copy_shared}
pub use denote.Struct.Field.{u64-field}
pub use denote.Struct.Laws.{u64-laws, u64-copy}
pub use Rattle.std.specs.Prelude.{Result, MatchResult}
pub use Rattle.std.specs.contracts.result.Result.{the_row as Result_row}
pub use Rattle.std.proofs.result.Result.TheLaws.{the_row_laws as Result_laws}
pub use Rattle.std.proofs.raw_atomic.Walks.{proved}
