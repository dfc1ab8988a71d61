-- The builder is taken apart. Its buffer is lent to `push_at`, and comes back. Then it goes into the new builder; or
-- it is shared, and let go, for all the time that it has left.
use Rattle.uefi_base.proofs.WalkNames.{◌≡◌, refl, ℕ, List, [], ◌∷◌, full_share, ftrue, flft, emp, id⊢, named}
use Rattle.uefi_base.proofs.WalkNames.{w64, fact, fact_i, tables, ‵, raw, ◌⊛◌, some, later, ◌$◌, ◌∵◌, !, qed, done}
use Rattle.uefi_base.proofs.WalkNames.{move, keep, drop, use0, use1, use2, split, join, fsplit, fjoin, pick, await}
use Rattle.uefi_base.proofs.WalkNames.{suffices, whole, sub, agg, enter, addr, from, fld, hop, stop, and_then, no_more}
use Rattle.uefi_base.proofs.WalkNames.{returns, alloc_all, pass_all, free_all, look_at, look_in_at, get, get_in, sets}
use Rattle.uefi_base.proofs.WalkNames.{lands_as, u8, usize, bool, bool_Tells, no, yes, Is, shows, uint_vals, owns, plain}
use Rattle.uefi_base.proofs.WalkNames.{named_lft, MutSlice, ShrSlice, mut_slice_vals, mut_slice_Tells, nothing, heard}
use Rattle.uefi_base.proofs.WalkNames.{peeks, calls_at, lasts, triple_of, framed, Stays, walk_of, stay_dropped}
use Rattle.uefi_base.proofs.WalkNames.{Goes-dropped, ends_at, Result, Result_row, Result_laws, proved}
use Rattle.std.proofs.Common.{Bool, ◌↔◌, IsTrue, ap}
use Rattle.std.specs.Prelude.{IsOk, IsErr}
use mir.Syntax.{a_type, dcons, dnil}
use mir.MapTy.{inst_fn}
use base.Fml.{Fml}
use types.Kit.{fpick, rewrite, updating, now as at_once, at_ret, prop, Sq, by}
use types.Run.{of_opd, first, branches, skips, exec, returns_within}
use types.ByLocal.{env}
use contract.BorrowLft.{◌⊑◌}
use Rattle.std.proofs.VecSteps.Shapes.{after}
use denote.Builtin.{RefOf}
use denote.Param.{param, bounded}
use denote.Plain.{uint_Tells}
use denote.Ref.{shr_vals, shr_Tells}
use denote.Steps.{only}
use Rattle.uefi_base.proofs.Sharing.{shares_all, Ended}
use Rattle.uefi_base.proofs.WriterWalk.{Facts, Gone, all_gone, all_said, lends_to, typed}
use Rattle.uefi_path.specs.build.Views.{StaysIfRefused}
use Rattle.uefi_path.proofs.BuilderLaws.{Written_row, Written_laws, Written_copy}
use Rattle.uefi_path.proofs.Pushing.{WroteNode, wrote_node, nodes_seen, Pushed, accepts, refuses}
use Rattle.uefi_path.proofs.Pushing.{is_true, is_err, is_none}
use Rattle.uefi_path.proofs.Refused.{rests_in, rests_as}
use Rattle.uefi_path.specs.declared.build.builder.DevicePathBuilder.{DevicePathBuilder}
use Rattle.uefi_path.specs.declared.build.error.BuildError.{BuildError}
use Rattle.uefi_path.specs.contracts.build.builder.DevicePathBuilder.{the_row as Builder_row}
use Rattle.uefi_path.proofs.build.builder.DevicePathBuilder.TheLaws.{the_row_laws as Builder_laws}
use Rattle.uefi_path.proofs.build.builder.DevicePathBuilder.TheLaws.{the_told as Builder_told}
use Rattle.uefi_path.specs.contracts.build.error.BuildError.{the_row as Error_row}
use Rattle.uefi_path.proofs.build.error.BuildError.TheLaws.{the_row_laws as Error_laws}
use Rattle.uefi_path.specs.contracts.build.builder.DevicePathBuilder.push as f
use Rattle.uefi_path.proofs.build.builder.DevicePathBuilder.push.Statement.{statement}
use Rattle.uefi_path.proofs.build.builder.DevicePathBuilder.push.Code as code
use Rattle.uefi_path.specs.contracts.build.builder.push_at as g
use Rattle.uefi_path.proofs.build.builder.push_at.Met as g-thm
use Rattle.uefi_path.specs.contracts.build.builder.is_written as s
use Rattle.uefi_path.proofs.build.builder.is_written.Met as s-thm
use Rattle.uefi_path.specs.contracts.build.builder.DevicePathBuilder.from_written as h
use Rattle.uefi_path.proofs.build.builder.DevicePathBuilder.from_written.Met as h-thm
use Rattle.uefi_path.specs.contracts.build.builder.DevicePathBuilder.not_written as n
use Rattle.uefi_path.proofs.build.builder.DevicePathBuilder.not_written.Met as n-thm

pub push_spec : {M : Type 1} → statement M
push_spec 𝓤 𝓛 𝓜 𝓡 wired N laws ghosts dict met =
    let ended = f.ended N ghosts dict in
    let node_slot = RefOf (1 ∷ []) tt (plain (λ κs. param 0 N)) (λ _. tt) in
    let stayed : Stays ended.signature.params ended.kept =
    (stay_dropped (plain (λ κs. Builder_row (named_lft 3 0 tt κs))) no, (stay_dropped node_slot yes, tt)) in
    let c = f.clauses N ghosts dict 𝓛 𝓜.mem 𝓡.returns in
    let 𝓑 = tables 𝓤 𝓛.H 𝓜 𝓡 𝓡.env in
    let 𝓣 = framed 𝓤 𝓛.H 𝓜 𝓑 in
    let at = bounded (a_type ∷ []) (N, tt) (dcons dict dnil) in
    let function = inst_fn at code.function in
    let G = triple_of 𝓛 (g.signature N) (g.spec N ghosts dict 𝓛 𝓜.mem 𝓡.returns) in
    proved 𝓛 ended stayed c 𝓜 𝓡 (
      (λ κs x w vs fits. qed 𝓛 (‵ ftrue ∷ []) ∵ updating ! $ nothing ! $ fjoin ! $ at_once ! $ done !),
      (Goes-dropped 𝓛 3 node_slot yes (λ κs x w. refl), tt),
    )
    (f.Key.name at) function (code.unfolded 𝓤 𝓛.H 𝓜 𝓡 wired (N, tt) dict)
    (λ κs. ((λ x. (Builder_told (named_lft 3 0 tt κs)).val x ∷ []), (shr_vals, tt)))
    (λ κs. ((Builder_told (named_lft 3 0 tt κs)).tells, (shr_Tells (named 1) κs.1.0 (param 0 N), tt)))
    (λ κs qs bounds a _ are.
    let W = walk_of 𝓛 ended stayed c in
    let builder = a.0 in let r = builder.buffer in let κ = κs.0 in let q = qs.0 in
    let Row = Builder_row (named_lft 3 0 tt κs) in
    let vs = (Builder_told (named_lft 3 0 tt κs)).val builder ∷ [] in
    let y : W.Ghost = ((κs, qs, bounds, a, (vs, (shr_vals a.1.0, tt))), tt) in
    let Slice = MutSlice (named 0) κ u8 in
    let offset = uint_vals w64 builder.end in
    let Node_row = node_slot.row κs in
    let others = ‵ (owns (usize ∷ Node_row ∷ []) (builder.end, a.1) (offset, (shr_vals a.1.0, tt))) in
    let tokens = ‵ (flft κs.1.0 qs.1.0) ⊛ ‵ (flft κs.1.1.0 qs.1.1.0) ⊛ ‵ ftrue in
    let node = ghosts.node a.1.0.now in let Valid = ghosts.is_valid a.1.0.now in
    let Re = Result_row Row Error_row in
    let z : ℕ → ℕ → G.Ghost = λ α δ. (
      (
        (α ∷ [], κs.1),
        (full_share, qs.1),
        bounds,
        (record r { ghost_name = δ }, (builder.end, a.1)),
        (mut_slice_vals r, (offset, (shr_vals a.1.0, tt))),
      ),
      tt,
    ) in
    let left : ℕ → ℕ → List ℕ × (Unit {0} × (Unit {0} × Unit {0})) → Fml = λ α δ ws.
    lasts (g.ended N ghosts dict) (z α δ).0.0 (z α δ).0.3 ws in
    let fits = are.0.1.1.0.0.1.0 in
    let name : DevicePathBuilder → ℕ = λ other. other.buffer.ghost_name in
    let rests = λ (e : Result DevicePathBuilder BuildError). StaysIfRefused builder e in
    let Re_laws = Result_laws Row Error_row (Builder_laws (named_lft 3 0 tt κs)) Error_laws in
    let out : (v : _) (e : Result DevicePathBuilder BuildError) → Pushed builder node Valid e
    → Sq 𝓛 (‵ (Re.own_val e (v ∷ [])) ∷ ‵ (flft κ q) ∷ tokens ∷ ‵ (rests e) ∷ []) (prop (W.post y v)) = λ v e known.
    suffices ! _ (ends_at 𝓛 ended stayed c y v e ((tt, tt), (tt, tt)) (tt, (tt, tt))) $
    use0 𝓛 (Gone 𝓤 2) (all_gone 𝓛 2) $ join ! $ move ! (1 ∷ 2 ∷ []) $ join ! $ join ! $
    use0 𝓛 (Facts 𝓤 (_ ∷ _ ∷ _ ∷ _ ∷ _ ∷ _ ∷ _ ∷ [])) (all_said 𝓛 (_ ∷ _ ∷ _ ∷ _ ∷ _ ∷ _ ∷ _ ∷ []) (
      known.valid,
      (
        known.accepted,
        (
          known.nodes,
          (
            known.bytes,
            (
              known.room,
              (known.same_buffer, (known.refused, tt)),
            ),
          ),
        ),
      ),
    )) $
    move ! (2 ∷ 0 ∷ []) $ join ! $ move ! (1 ∷ 0 ∷ []) $ join ! $ by ! (id⊢ 𝓤 _) in
    qed 𝓛 (((‵ (flft κ q) ⊛ tokens) ⊛ ‵ (Row.own_val builder vs) ⊛ ‵ (owns (Node_row ∷ []) a.1 (shr_vals a.1.0, tt)))
    ∷ (raw (fact 𝓤 (κs.1.1.0 ⊑ N.lives)) ⊛ ‵ ftrue) ∷ []) ∵
    move ! (1 ∷ []) $ split ! $ heard ! _ (λ lives. drop ! $ split ! $ split ! $ move ! (2 ∷ []) $ split ! $
    fpick ! (λ vss. fsplit ! $ drop ! $ fsplit ! $
    peeks ! Slice (Is Slice) (shows 𝓛 Slice) r vss.0 (λ is-buffer.
    rewrite ! 0 (λ us. ‵ (Slice.own_val r us)) (mut_slice_Tells (named 0) κ u8 r vss.0 is-buffer) refl $
    move ! (1 ∷ []) $ fsplit ! $
    peeks ! usize (Is usize) (shows 𝓛 usize) builder.end vss.1.0 (λ is-end.
    rewrite ! 0 (λ us. ‵ (usize.own_val builder.end us)) (uint_Tells w64 builder.end vss.1.0 is-end) refl $
    move ! (1 ∷ []) $ drop ! $ move ! (0 ∷ 2 ∷ []) $ fjoin ! $ move ! (1 ∷ 2 ∷ 3 ∷ 0 ∷ []) $
    -- [the buffer; its token; the other tokens; the other arguments]
    enter ! _ _ _ _ _ $ alloc_all ! (λ l. pass_all ! refl
    ((((Builder_laws (named_lft 3 0 tt κs)).lawful 𝓛).typed builder _ are.0).0, ((tt, tt), tt)) $
    sets ! (of_opd ! (get_in ! (fld ! refl (stop !)) (sub ! 0 refl (whole !)))) refl
    (tt, (tt, (record { fits = fits }, tt))) $
    sets ! (of_opd ! (get_in ! (fld ! refl (stop !)) (sub ! 1 refl (whole !)))) refl
    (tt, record { fits = are.0.1.1.1.0.1 }) $
    sets ! (addr ! (from ! (fld ! refl (hop ! (look_in_at ! 3 (sub ! 0 refl (whole !))) (stop !))))) refl (tt, tt) $
    sets ! (agg ! (and_then ! (get ! refl)
    (and_then ! (get_in ! (fld ! refl (stop !)) (sub ! 1 refl (whole !))) (no_more !)))) refl
    (tt, (tt, (record { fits = fits }, tt))) $
    lends_to 𝓛 κ q r 𝓣 tokens others (_ ∷ _ ∷ []) (lives, (builder.within, tt)) Written_row (λ ws. ws.0) left
    (λ w ws. _ ∷ _ ∷ _ ∷ _ ∷ _ ∷ _ ∷ _ ∷ []) (λ w ys. WroteNode builder node Valid ys w) G
    (g-thm.met 𝓤 𝓛 𝓜 𝓡 (code.calls-uefi_path::build::builder::push_at 𝓡.env wired) N laws ghosts dict met) z
    (λ α δ. id⊢ 𝓤 _)
    (λ α δ. and_then ! (get ! refl) (and_then ! (get ! refl) (and_then ! (get ! refl) (no_more !))))
    (λ α δ v. id⊢ 𝓤 _)
    (λ α δ ws. qed 𝓛 (‵ (left α δ ws) ∷ []) ∵ fsplit ! $ fsplit ! $ fsplit ! $ keep ! (0 ∷ []) $ done !)
    (λ w ws t. wrote_node builder node Valid ws.0 t.0 t.1.0 t.1.1.0 t.1.1.1.0 t.1.1.1.1.0 t.1.1.1.1.1.0
    t.1.1.1.1.1.1.0)
    (λ v w ys wrote. typed 𝓛 κ q r Written_row Written_laws w v (λ t. lands_as ! refl refl t.0 $
    -- [the written length; the buffer; its token; the other tokens]
    use1 𝓛 (‵ (Written_row.own_val w (v ∷ [])) ⊛ ‵ (Written_row.own_val w (v ∷ [])))
    ((Written_copy.copies _ 𝓤 𝓛).twice w (v ∷ [])) $ split ! $
    let S = triple_of 𝓛 s.signature (s.spec 𝓛 𝓜.mem 𝓡.returns) in
    let zs : S.Ghost = ((tt, tt, tt, (w, tt), (v ∷ [], tt)), tt) in
    nothing ! $ move ! (1 ∷ 0 ∷ []) $ join ! $ nothing ! $ join ! $ nothing ! $ move ! (1 ∷ 0 ∷ []) $
    use2 𝓛 (raw (S.pre zs)) (id⊢ 𝓤 _) $
    calls_at ! 𝓣 S (s-thm.met 𝓤 𝓛 𝓜 𝓡 (code.calls-uefi_path::build::builder::is_written 𝓡.env wired)) zs
    (and_then ! (get ! refl) (no_more !)) (λ u.
    use1 𝓛 (later (some (λ (b : Bool). (‵ ftrue ⊛ ‵ (bool.own_val b (u ∷ []))) ⊛ some
    (λ (ws : Unit {0} × Unit {0}). ‵ (lasts s.ended zs.0.0 zs.0.3 ws) ⊛ raw (fact 𝓤 (IsTrue b ↔ IsOk w))))))
    (id⊢ 𝓤 _) $
    await ! tt $ pick ! (λ b. split ! $ split ! $ drop ! $ peeks ! bool (Is bool) (shows 𝓛 bool) b (u ∷ [])
    (λ is-b. drop ! $ pick ! (λ _. split ! $ drop ! $ heard ! _ (λ judged.
    lands_as ! (ap only (bool_Tells b (u ∷ []) is-b)) refl (tt, tt) $
    first ! $ branches ! (get ! refl)
    (λ so.
    let is_ok : IsOk w = judged.0 (is_true b so) in
    sets ! (addr ! (from ! (fld ! refl (hop ! (look_in_at ! 3 (sub ! 0 refl (whole !))) (stop !))))) refl (tt, tt) $
    sets ! (agg ! (and_then ! (get ! refl)
    (and_then ! (get_in ! (fld ! refl (stop !)) (sub ! 1 refl (whole !))) (no_more !)))) refl
    (tt, (tt, (record { fits = fits }, tt))) $
    let K = triple_of 𝓛 h.signature (h.spec 𝓛 𝓜.mem 𝓡.returns) in
    let zh : K.Ghost =
    (((κ, tt), (q, tt), tt, (record r { now = ys }, (w, tt)), (mut_slice_vals r, (v ∷ [], tt))), tt) in
    nothing ! $ move ! (1 ∷ 0 ∷ []) $ join ! $ move ! (1 ∷ 0 ∷ []) $ join ! $ nothing ! $ move ! (2 ∷ 0 ∷ []) $
    join ! $ join ! $ use0 𝓛 (Facts 𝓤 (_ ∷ _ ∷ [])) (all_said 𝓛 (_ ∷ _ ∷ [])
    (is_ok, (nodes_seen builder node Valid ys w wrote, tt))) $
    move ! (1 ∷ 0 ∷ []) $ use2 𝓛 (raw (K.pre zh)) (id⊢ 𝓤 _) $
    calls_at ! 𝓣 K (h-thm.met 𝓤 𝓛 𝓜 𝓡
    (code.calls-uefi_path::build::builder::DevicePathBuilder::from_written 𝓡.env wired)) zh
    (and_then ! (get ! refl) (and_then ! (get ! refl) (no_more !))) (λ v'.
    use1 𝓛 (later (some (λ (e : Result DevicePathBuilder BuildError).
    ((‵ (flft κ q) ⊛ ‵ ftrue) ⊛ ‵ (Re.own_val e (v' ∷ []))) ⊛ some
    (λ (es : Unit {0} × (Unit {0} × Unit {0})). ‵ (lasts h.ended zh.0.0 zh.0.3 es) ⊛ raw (fact 𝓤 _) ⊛ raw
    (fact 𝓤 _) ⊛ raw (fact 𝓤 _) ⊛ raw (fact 𝓤 _))))) (id⊢ 𝓤 _) $
    await ! tt $ pick ! (λ e. split ! $ move ! (1 ∷ []) $ pick !
    (λ _. split ! $ drop ! $ split ! $ heard ! _
    (λ made. split ! $ heard ! _ (λ encodes. split ! $ heard ! _ (λ bytes. heard ! _ (λ same. split ! $ split ! $
    -- [the token; nothing; the result; the other tokens]
    move ! (2 ∷ []) $ typed 𝓛 κ q r Re Re_laws e v' (λ t. lands_as ! refl refl t.0 $
    returns_within ! (W.post y) refl (look_at ! 0 refl) $ free_all ! refl $
    use0 𝓛 (‵ (rests e)) (rests_in 𝓛 name r (λ last. last ≡ r.now) e made same) $ keep ! (1 ∷ 2 ∷ 4 ∷ 0 ∷ []) $
    out v' e (accepts builder node Valid ys w e wrote is_ok made encodes bytes same))))))))))
    (λ not_so. skips ! $ exec ! 𝓑.C 𝓑.Λ (env function.locals l) (after 7 function.body) (at_ret _ (W.post y)) $
    let failed : IsErr w = is_err w b judged not_so in
    move ! (1 ∷ 2 ∷ []) $
    use2 𝓛 (later (‵ ((ShrSlice (named 0) κ u8).own_val (record { ref_ptr = r.ref_ptr; now = ys }) (mut_slice_vals r))
    ⊛ ‵ (Ended 𝓛 r.ghost_name ys) ⊛ ‵ (flft κ q)))
    (shares_all 𝓛 (named 0) (named 0) κ q (record r { now = ys }) (mut_slice_vals r)) $
    await ! tt $ split ! $ drop ! $ split ! $
    -- [how the buffer ends; its token; the written length; the other tokens]
    let F = triple_of 𝓛 n.signature (n.spec 𝓛 𝓜.mem 𝓡.returns) in
    let zn : F.Ghost = (((κ, tt), (q, tt), tt, (w, tt), (v ∷ [], tt)), tt) in
    nothing ! $ move ! (3 ∷ 0 ∷ []) $ join ! $ nothing ! $ move ! (3 ∷ 0 ∷ []) $ join ! $ join ! $
    use0 𝓛 (raw (fact 𝓤 (IsErr w))) (fact_i 𝓤 _ (emp 𝓤) failed) $ move ! (1 ∷ 0 ∷ []) $
    use2 𝓛 (raw (F.pre zn)) (id⊢ 𝓤 _) $
    calls_at ! 𝓣 F (n-thm.met 𝓤 𝓛 𝓜 𝓡
    (code.calls-uefi_path::build::builder::DevicePathBuilder::not_written 𝓡.env wired)) zn
    (and_then ! (get ! refl) (no_more !)) (λ v'.
    use1 𝓛 (later (some (λ (e : Result DevicePathBuilder BuildError).
    ((‵ (flft κ q) ⊛ ‵ ftrue) ⊛ ‵ (Re.own_val e (v' ∷ []))) ⊛ some
    (λ (es : Unit {0} × Unit {0}). ‵ (lasts n.ended zn.0.0 zn.0.3 es) ⊛ raw (fact 𝓤 _))))) (id⊢ 𝓤 _) $
    await ! tt $ pick ! (λ e. split ! $ move ! (1 ∷ []) $
    pick ! (λ _. split ! $ drop ! $ heard ! _ (λ same. split ! $ split ! $
    -- [the token; nothing; the result; how the buffer ends; the other tokens]
    move ! (2 ∷ []) $ typed 𝓛 κ q r Re Re_laws e v' (λ t. lands_as ! refl refl t.0 $
    returns ! (look_at ! 0 refl) $ free_all ! refl $
    let known = refuses builder node Valid ys w e wrote failed same in
    move ! (3 ∷ []) $ use1 𝓛 (‵ (rests e))
    (rests_as 𝓛 name r (λ last. last ≡ r.now) ys e (is_none w e failed same) known.1) $
    keep ! (1 ∷ 2 ∷ 4 ∷ 0 ∷ []) $ out v' e known.0)))))))))))))))))))
