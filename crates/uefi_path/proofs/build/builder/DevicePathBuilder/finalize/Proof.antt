-- The builder is taken apart. Its buffer is lent to `push_end_at`, comes back, and is then shared with the path until
-- its loan ends.
use Rattle.uefi_base.proofs.WalkNames.{◌≡◌, refl, ℕ, List, [], ◌∷◌, full_share, ftrue, flft, id⊢, named, w64}
use Rattle.uefi_base.proofs.WalkNames.{tables, ‵, ◌⊛◌, ◌$◌, ◌∵◌, !, qed, done, move, keep, split, fsplit, fjoin}
use Rattle.uefi_base.proofs.WalkNames.{suffices, drop, whole, sub, agg, enter, addr, from, fld, hop, stop, and_then}
use Rattle.uefi_base.proofs.WalkNames.{no_more, returns, alloc_all, pass_all, free_all, look_at, look_in_at, get, get_in}
use Rattle.uefi_base.proofs.WalkNames.{sets, lands_as, u8, usize, no, plain, named_lft, mut_slice_vals, MutSlice}
use Rattle.uefi_base.proofs.WalkNames.{mut_slice_Tells, lasts, triple_of, framed, Stays, walk_of, stay_dropped, ends_at}
use Rattle.uefi_base.proofs.WalkNames.{Result_row, Result_laws, MatchResult, proved, as_bor, peeks, Is, shows, uint_vals}
use Rattle.uefi_base.proofs.WalkNames.{owns, nothing}
use types.Kit.{fpick, rewrite, updating, now as at_once}
use types.Run.{of_opd}
use base.Fml.{Fml}
use denote.Plain.{uint_Tells}
use Rattle.uefi_base.specs.Buffer.{put_at}
use Rattle.uefi_base.proofs.WriterWalk.{lends_to, shares_with, typed, finishes}
use Rattle.uefi_path.specs.Node.{encoding, end_entire}
use Rattle.uefi_path.specs.build.Views.{built_length, builder_bytes}
use Rattle.uefi_path.proofs.Finalizing.{WroteEnd, wrote_end, path_seen, Finalized, finalized}
use Rattle.uefi_path.proofs.BuilderLaws.{Written_row, Written_laws}
use Rattle.uefi_path.specs.contracts.build.builder.DevicePathBuilder.{the_row as Builder_row}
use Rattle.uefi_path.proofs.build.builder.DevicePathBuilder.TheLaws.{the_row_laws as Builder_laws}
use Rattle.uefi_path.proofs.build.builder.DevicePathBuilder.TheLaws.{the_told as Builder_told}
use Rattle.uefi_path.specs.contracts.path.DevicePath.{the_row as Path_row}
use Rattle.uefi_path.proofs.path.DevicePath.TheLaws.{the_row_laws as Path_laws}
use Rattle.uefi_path.specs.contracts.build.error.BuildError.{the_row as Error_row}
use Rattle.uefi_path.proofs.build.error.BuildError.TheLaws.{the_row_laws as Error_laws}
use Rattle.uefi_path.specs.contracts.build.builder.DevicePathBuilder.finalize as f
use Rattle.uefi_path.proofs.build.builder.DevicePathBuilder.finalize.Statement.{statement}
use Rattle.uefi_path.proofs.build.builder.DevicePathBuilder.finalize.Code as code
use Rattle.uefi_path.specs.contracts.build.builder.push_end_at as g
use Rattle.uefi_path.proofs.build.builder.push_end_at.Met as g-thm
use Rattle.uefi_path.specs.contracts.build.builder.path_in as h
use Rattle.uefi_path.proofs.build.builder.path_in.Met as h-thm

abbrev stayed : Stays f.ended.signature.params f.ended.kept
stayed = (stay_dropped (plain (λ κs. Builder_row (named_lft 1 0 tt κs))) no, tt)

pub finalize_spec : {M : Type 1} → statement M
finalize_spec 𝓤 𝓛 𝓜 𝓡 wired =
    let c = f.clauses 𝓛 𝓜.mem 𝓡.returns in let 𝓣 = framed 𝓤 𝓛.H 𝓜 (tables 𝓤 𝓛.H 𝓜 𝓡 𝓡.env) in
    let G = triple_of 𝓛 g.signature (g.spec 𝓛 𝓜.mem 𝓡.returns) in
    let K = triple_of 𝓛 h.signature (h.spec 𝓛 𝓜.mem 𝓡.returns) in
    proved 𝓛 f.ended stayed c 𝓜 𝓡
    ((λ κs x w vs fits. qed 𝓛 (‵ ftrue ∷ []) ∵ updating ! $ nothing ! $ fjoin ! $ at_once ! $ done !), tt) f.Key.name
    code.function (code.unfolded 𝓤 𝓛.H 𝓜 𝓡 wired)
    (λ κs. ((λ x. (Builder_told (named_lft 1 0 tt κs)).val x ∷ []), tt))
    (λ κs. ((Builder_told (named_lft 1 0 tt κs)).tells, tt))
    (λ κs qs bounds a _ are. let builder = a.0 in let r = builder.buffer in let κ = κs.0 in let q = qs.0 in
    let Row = Builder_row (named_lft 1 0 tt κs) in
    let vs = (Builder_told (named_lft 1 0 tt κs)).val builder ∷ [] in
    let y : (walk_of 𝓛 f.ended stayed c).Ghost = ((κs, qs, bounds, a, (vs, tt)), tt) in
    let Slice = MutSlice (named 0) κ u8 in
    let offset = uint_vals w64 builder.end in
    let others = ‵ (owns (usize ∷ []) (builder.end, tt) (offset, tt)) in
    let Rp = Path_row (named_lft 1 0 tt κs) in let Re = Result_row Rp Error_row in
    let z : ℕ → ℕ → G.Ghost = λ α δ. (
      (
        (α ∷ [], tt),
        (full_share, tt),
        tt,
        (record r { ghost_name = δ }, (builder.end, tt)),
        (mut_slice_vals r, (offset, tt)),
      ),
      tt,
    ) in
    let left : ℕ → ℕ → List ℕ × (Unit {0} × Unit {0}) → Fml = λ α δ ws. lasts g.ended (z α δ).0.0 (z α δ).0.3 ws in
    let fits = are.0.1.1.0.0.1.0 in
    qed 𝓛 (((‵ (flft κ q) ⊛ ‵ ftrue) ⊛ ‵ (Row.own_val builder vs) ⊛ ‵ ftrue) ∷ ‵ ftrue ∷ []) ∵
    split ! $ split ! $ move ! (2 ∷ []) $ split ! $ keep ! (0 ∷ 2 ∷ 3 ∷ []) $
    fpick ! (λ vss. fsplit ! $ drop ! $ fsplit ! $
    peeks ! Slice (Is Slice) (shows 𝓛 Slice) r vss.0 (λ is-buffer.
    rewrite ! 0 (λ us. ‵ (Slice.own_val r us)) (mut_slice_Tells (named 0) κ u8 r vss.0 is-buffer) refl $
    move ! (1 ∷ []) $ fsplit ! $
    peeks ! usize (Is usize) (shows 𝓛 usize) builder.end vss.1.0 (λ is-end.
    rewrite ! 0 (λ us. ‵ (usize.own_val builder.end us)) (uint_Tells w64 builder.end vss.1.0 is-end) refl $
    fjoin ! $ move ! (1 ∷ 2 ∷ 3 ∷ 0 ∷ []) $
    -- [the buffer; its token; the other tokens; the offset]
    enter ! _ _ _ _ _ $ alloc_all ! (λ l.
    pass_all ! refl (((Builder_laws (named_lft 1 0 tt κs)).lawful 𝓛).typed builder _ are.0) $
    sets ! (of_opd ! (get_in ! (fld ! refl (stop !)) (sub ! 0 refl (whole !)))) refl
    (tt, (tt, (record { fits = fits }, tt))) $
    sets ! (of_opd ! (get_in ! (fld ! refl (stop !)) (sub ! 1 refl (whole !)))) refl
    (tt, record { fits = are.0.1.1.1.0.1 }) $
    sets ! (addr ! (from ! (fld ! refl (hop ! (look_in_at ! 2 (sub ! 0 refl (whole !))) (stop !))))) refl (tt, tt) $
    sets ! (agg ! (and_then ! (get ! refl)
    (and_then ! (get_in ! (fld ! refl (stop !)) (sub ! 1 refl (whole !))) (no_more !)))) refl
    (tt, (tt, (record { fits = fits }, tt))) $
    lends_to 𝓛 κ q r 𝓣 (‵ ftrue) others (_ ∷ []) (builder.within, tt) Written_row (λ ws. ws.0) left
    (λ w ws. _ ∷ _ ∷ _ ∷ _ ∷ _ ∷ []) (λ w ys. WroteEnd builder ys w) G
    (g-thm.met 𝓤 𝓛 𝓜 𝓡 (code.calls-uefi_path::build::builder::push_end_at 𝓡.env wired)) z
    (λ α δ. id⊢ 𝓤 _) (λ α δ. and_then ! (get ! refl) (and_then ! (get ! refl) (no_more !))) (λ α δ v. id⊢ 𝓤 _)
    (λ α δ ws. qed 𝓛 (‵ (left α δ ws) ∷ []) ∵ fsplit ! $ fsplit ! $ fsplit ! $ keep ! (0 ∷ []) $ done !)
    (λ w ws t. wrote_end builder ws.0 t.0 t.1.0 t.1.1.0 t.1.1.1.0 t.1.1.1.1.0)
    (λ v w ys wrote. typed 𝓛 κ q r Written_row Written_laws w v (λ t. lands_as ! refl refl t.0 $
    sets ! (addr ! (from ! (fld ! refl (hop ! (look_in_at ! 2 (sub ! 0 refl (whole !))) (stop !))))) refl (tt, tt) $
    sets ! (agg ! (and_then ! (get ! refl)
    (and_then ! (get_in ! (fld ! refl (stop !)) (sub ! 1 refl (whole !))) (no_more !)))) refl
    (tt, (tt, (record { fits = fits }, tt))) $
    let zh : K.Ghost =
    (((κ, tt), (q, tt), tt, (as_bor (record r { now = ys }), (w, tt)), (mut_slice_vals r, (v ∷ [], tt))), tt) in
    shares_with 𝓛 κ q r 𝓣 ys (‵ ftrue) (‵ (Written_row.own_val w (v ∷ []))) _ (path_seen builder ys w wrote) Re
    (λ es. lasts h.ended zh.0.0 zh.0.3 es) (λ e (es : Unit {0} × (Unit {0} × Unit {0})). _ ∷ _ ∷ [])
    (λ e. Finalized builder ys e)
    K (h-thm.met 𝓤 𝓛 𝓜 𝓡 (code.calls-uefi_path::build::builder::path_in 𝓡.env wired)) zh (id⊢ 𝓤 _)
    (and_then ! (get ! refl) (and_then ! (get ! refl) (no_more !))) (λ v'. id⊢ 𝓤 _)
    (λ e es t. finalized builder ys w e wrote t.0 t.1.0)
    (λ v' e made. typed 𝓛 κ q r Re (Result_laws Rp Error_row (Path_laws (named_lft 1 0 tt κs)) Error_laws) e v'
    (λ t. lands_as ! refl refl t.0 $ returns ! (look_at ! 0 refl) $ free_all ! refl $ suffices ! _
    (ends_at 𝓛 f.ended stayed c y v' e ((tt, tt), tt) (tt, tt)) $
    finishes 𝓛 κ q r (‵ ftrue) Re e v' ys
    (λ n. MatchResult e (λ _. n ≡ put_at (built_length builder) (encoding end_entire) (builder_bytes builder))
    (λ _. n ≡ builder_bytes builder))
    made.after 1 (_ ∷ _ ∷ _ ∷ []) (made.nodes, (made.room, (made.refused, tt))) (id⊢ 𝓤 _))))))))))
