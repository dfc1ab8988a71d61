-- The buffer is lent to the writer, comes back, and is then shared with the view until its loan ends.
use Rattle.uefi_base.proofs.WalkNames.{◌≡◌, refl, ℕ, List, [], ◌∷◌, full_share, ftrue, flft, id⊢, named, tables, ‵}
use Rattle.uefi_base.proofs.WalkNames.{◌⊛◌, ◌$◌, ◌∵◌, !, qed, done, keep, fsplit, suffices, whole, sub, agg, enter}
use Rattle.uefi_base.proofs.WalkNames.{addr, from, fld, hop, stop, and_then, no_more, returns, alloc_all, pass_all}
use Rattle.uefi_base.proofs.WalkNames.{free_all, look_at, look_in_at, get, get_in, sets, lands_as, u8, usize, no, owns}
use Rattle.uefi_base.proofs.WalkNames.{plain, mut_slice_of, named_lft, mut_slice_vals, mut_slice_Tells, lasts}
use Rattle.uefi_base.proofs.WalkNames.{triple_of, framed, Stays, walk_of, stay_dropped, Goes-spent_slice, ends_at}
use Rattle.uefi_base.proofs.WalkNames.{MatchResult, Result_row, Result_laws, proved, as_bor}
use base.Fml.{Fml}
use denote.Signature.{types_at}
use denote.Laws.{valss, all_Typed}
use denote.Slice.{mut_slice_Lawful}
use Rattle.uefi_base.specs.Buffer.{put_prefix}
use Rattle.uefi_base.proofs.WriterWalk.{lends_to, shares_with, typed, finishes, opens}
use Rattle.uefi_base.proofs.WriterArgs.{Arg, slots, stays, spelled, told, all_go, lawfuls, Nothings, nothings}
use Rattle.uefi_path.specs.Node.{joined}
use Rattle.uefi_path.specs.Views.{path_nodes}
use Rattle.uefi_path.specs.contracts.path.DevicePath.{the_row as View_row}
use Rattle.uefi_path.proofs.path.DevicePath.TheLaws.{the_row_laws as View_laws}
use Rattle.uefi_path_text.proofs.reading.TextWriter.{borrowed_text, Written_laws, Error_row, Error_laws}
use Rattle.uefi_path_text.proofs.reading.TextWritten.{WrotePath, MadePath, path_seen, path_made}
use Rattle.uefi_path_text.specs.contracts.parse.path.from_text as f
use Rattle.uefi_path_text.proofs.parse.path.from_text.Statement.{statement}
use Rattle.uefi_path_text.proofs.parse.path.from_text.Code as code
use Rattle.uefi_path_text.specs.contracts.parse.path.write_from_text as g
use Rattle.uefi_path_text.proofs.parse.path.write_from_text.Met as g-thm
use Rattle.uefi_path_text.specs.contracts.parse.path.path_from_written as h
use Rattle.uefi_path_text.proofs.parse.path.path_from_written.Met as h-thm

abbrev args : List (Arg 2)
args = borrowed_text ∷ []

abbrev stayed : Stays f.ended.signature.params f.ended.kept
stayed = (stay_dropped (mut_slice_of (0 ∷ []) tt (plain (λ _. u8))) no, stays args)

pub from_text_spec : {M : Type 1} → statement M
from_text_spec 𝓤 𝓛 𝓜 𝓡 wired =
    let c = f.clauses 𝓛 𝓜.mem 𝓡.returns in let 𝓣 = framed 𝓤 𝓛.H 𝓜 (tables 𝓤 𝓛.H 𝓜 𝓡 𝓡.env) in
    let G = triple_of 𝓛 g.signature (g.spec 𝓛 𝓜.mem 𝓡.returns) in
    let K = triple_of 𝓛 h.signature (h.spec 𝓛 𝓜.mem 𝓡.returns) in
    proved 𝓛 f.ended stayed c 𝓜 𝓡 (Goes-spent_slice 𝓛 2 (0 ∷ []) tt (plain (λ _. u8)), all_go 𝓛 args) f.Key.name
    code.function (code.unfolded 𝓤 𝓛.H 𝓜 𝓡 wired)
    (λ κs. (mut_slice_vals, spelled args κs)) (λ κs. (mut_slice_Tells (named 0) κs.0 u8, told args κs))
    (λ κs qs bounds a _ are. let r = a.0 in let κ = κs.0 in let q = qs.0 in
    let Ts = types_at (slots args) κs in
    let y : (walk_of 𝓛 f.ended stayed c).Ghost =
    ((κs, qs, bounds, a, (mut_slice_vals r, valss Ts (spelled args κs) a.1)), tt) in let vss = y.0.4 in
    let text = a.1.0.now in
    let others = ‵ (owns Ts a.1 vss.1) in let tokens = ‵ (flft κs.1.0 qs.1.0) ⊛ ‵ ftrue in
    let Rw = Result_row usize Error_row in let Rv = View_row (named_lft 2 0 tt κs) in
    let Re = Result_row Rv Error_row in
    let z : ℕ → ℕ → G.Ghost =
    λ α δ. (((α ∷ [], κs.1), (full_share, qs.1), bounds, (record r { ghost_name = δ }, a.1), vss), tt) in
    let left : ℕ → ℕ → List ℕ × Nothings args → Fml = λ α δ ws. lasts g.ended (z α δ).0.0 (z α δ).0.3 ws in
    opens 𝓛 κ q r tokens others []
    (λ _. enter ! _ _ _ _ _ $ alloc_all !
    (λ l. pass_all ! refl
    (all_Typed 𝓛 (types_at f.ended.signature.params κs)
    (mut_slice_Lawful 𝓛 (named 0) κ u8, lawfuls 𝓛 args κs) a vss are) $
    sets ! (addr ! (from ! (fld ! refl (hop ! (look_in_at ! 1 (sub ! 0 refl (whole !))) (stop !))))) refl (tt, tt) $
    sets ! (agg ! (and_then ! (get ! refl)
    (and_then ! (get_in ! (fld ! refl (stop !)) (sub ! 1 refl (whole !))) (no_more !)))) refl
    (tt, (tt, (record { fits = are.0.0.1.0 }, tt))) $
    lends_to 𝓛 κ q r 𝓣 tokens others [] tt Rw (λ ws. ws.0) left (λ w ws. _ ∷ _ ∷ _ ∷ [])
    (λ w ys. WrotePath text r.now ys w) G
    (g-thm.met 𝓤 𝓛 𝓜 𝓡 (code.calls-uefi_path_text::parse::path::write_from_text 𝓡.env wired)) z
    (λ α δ. id⊢ 𝓤 _) (λ α δ. and_then ! (get ! refl) (and_then ! (get ! refl) (no_more !))) (λ α δ v. id⊢ 𝓤 _)
    (λ α δ ws. qed 𝓛 (‵ (left α δ ws) ∷ []) ∵ fsplit ! $ fsplit ! $ fsplit ! $ keep ! (0 ∷ []) $ done !)
    (λ w ws t. record { ok = t.0; unchanged = t.1.0; refused = t.1.1.0 })
    (λ v w ys wrote. typed 𝓛 κ q r Rw Written_laws w v (λ t. lands_as ! refl refl t.0 $
    sets ! (addr ! (from ! (fld ! refl (hop ! (look_in_at ! 1 (sub ! 0 refl (whole !))) (stop !))))) refl (tt, tt) $
    sets ! (agg ! (and_then ! (get ! refl)
    (and_then ! (get_in ! (fld ! refl (stop !)) (sub ! 1 refl (whole !))) (no_more !)))) refl
    (tt, (tt, (record { fits = are.0.0.1.0 }, tt))) $
    let zh : K.Ghost =
    (((κ, tt), (q, tt), tt, (as_bor (record r { now = ys }), (w, tt)), (vss.0, (v ∷ [], tt))), tt) in
    shares_with 𝓛 κ q r 𝓣 ys tokens (‵ (Rw.own_val w (v ∷ []))) _ (path_seen text r.now ys w wrote) Re
    (λ es. lasts h.ended zh.0.0 zh.0.3 es) (λ e (es : Unit {0} × (Unit {0} × Unit {0})). _ ∷ _ ∷ [])
    (λ e. MadePath text r.now ys e)
    K (h-thm.met 𝓤 𝓛 𝓜 𝓡 (code.calls-uefi_path_text::parse::path::path_from_written 𝓡.env wired)) zh (id⊢ 𝓤 _)
    (and_then ! (get ! refl) (and_then ! (get ! refl) (no_more !))) (λ v'. id⊢ 𝓤 _)
    (λ e es t. path_made text r.now ys w e wrote t.0 t.1.0)
    (λ v' e made. typed 𝓛 κ q r Re (Result_laws Rv Error_row (View_laws (named_lft 2 0 tt κs)) Error_laws) e v'
    (λ t. lands_as ! refl refl t.0 $ returns ! (look_at ! 0 refl) $ free_all ! refl $ suffices ! _
    (ends_at 𝓛 f.ended stayed c y v' e (tt, nothings args) (tt, nothings args)) $
    finishes 𝓛 κ q r tokens Re e v' ys
    (λ n. MatchResult e (λ path. n ≡ put_prefix (joined (path_nodes path)) r.now) (λ _. n ≡ r.now))
    made.after 2 (_ ∷ _ ∷ []) (made.path, (made.refused, tt)) (id⊢ 𝓤 _))))))))
