-- The buffer is lent to the writer, comes back, and is then shared with the view until its loan ends.
use Rattle.uefi_records.proofs.file.WriterNames.{◌≡◌, refl, ℕ, List, [], ◌∷◌, full_share, ftrue, flft, id⊢, named}
use Rattle.uefi_records.proofs.file.WriterNames.{tables, ‵, ◌⊛◌, ◌$◌, ◌∵◌, !, qed, done, keep, fsplit, suffices, whole}
use Rattle.uefi_records.proofs.file.WriterNames.{sub, agg, enter, addr, from, fld, hop, stop, and_then, no_more}
use Rattle.uefi_records.proofs.file.WriterNames.{returns, alloc_all, pass_all, free_all, look_at, look_in_at, get}
use Rattle.uefi_records.proofs.file.WriterNames.{get_in, sets, lands_as, length, u8, usize, no, owns, plain}
use Rattle.uefi_records.proofs.file.WriterNames.{mut_slice_of, named_lft, mut_slice_vals, mut_slice_Tells, lasts}
use Rattle.uefi_records.proofs.file.WriterNames.{triple_of, framed, Stays, walk_of, stay_dropped, Goes-spent_slice}
use Rattle.uefi_records.proofs.file.WriterNames.{ends_at, MatchResult, Result_row, Result_laws, proved, Fml, types_at}
use Rattle.uefi_records.proofs.file.WriterNames.{valss, all_Typed, mut_slice_Lawful, put_prefix, Error_row, Error_laws}
use Rattle.uefi_records.proofs.file.WriterNames.{lends_to, shares_with, typed, finishes, opens, Arg, slots, stays}
use Rattle.uefi_records.proofs.file.WriterNames.{spelled, told, all_go, lawfuls, Nothings, nothings, Written_laws}
use Rattle.uefi_records.proofs.file.WriterNames.{WroteRecord, MadeRecord, record_seen_in, record_made_of, number64}
use Rattle.uefi_records.proofs.file.WriterNames.{text16, as_bor}
use Rattle.uefi_base.proofs.Written.{and_also, wrote}
use Rattle.uefi_records.specs.file.Name.{FitName}
use Rattle.uefi_records.specs.file.FileInfo.{FileFields, FitFile, file_header, file_info_alignment, file_info_bytes}
use Rattle.uefi_records.specs.file.FileInfo.{file_info_size, file_name_offset}
use Rattle.uefi_records.specs.file.Views.{file_fields_given, file_info_view}
use Rattle.uefi_records.proofs.file.FieldsBack.{length-file_header}
use Rattle.uefi_records.proofs.file.FileInfoArgs.{time, attributes}
use Rattle.uefi_records.proofs.file.Written.{file_info_made}
use Rattle.uefi_records.specs.contracts.file.file_info.FileInfo.{the_row as View_row}
use Rattle.uefi_records.proofs.file.file_info.FileInfo.TheLaws.{the_row_laws as View_laws}
use Rattle.uefi_records.specs.contracts.file.file_info.FileInfo.new as f
use Rattle.uefi_records.proofs.file.file_info.FileInfo.new.Statement.{statement}
use Rattle.uefi_records.proofs.file.file_info.FileInfo.new.Code as code
use Rattle.uefi_records.specs.contracts.file.write.write_file_info as g
use Rattle.uefi_records.proofs.file.write.write_file_info.Met as g-thm
use Rattle.uefi_records.specs.contracts.file.file_info.FileInfo.over as h
use Rattle.uefi_records.proofs.file.file_info.FileInfo.over.Met as h-thm

abbrev args : List (Arg 3)
args = number64 ∷ number64 ∷ time ∷ time ∷ time ∷ attributes ∷ text16 ∷ []

abbrev stayed : Stays f.ended.signature.params f.ended.kept
stayed = (stay_dropped (mut_slice_of (0 ∷ []) tt (plain (λ _. u8))) no, stays args)

pub new_spec : {M : Type 1} → statement M
new_spec 𝓤 𝓛 𝓜 𝓡 wired =
    let c = f.clauses 𝓛 𝓜.mem 𝓡.returns in let 𝓣 = framed 𝓤 𝓛.H 𝓜 (tables 𝓤 𝓛.H 𝓜 𝓡 𝓡.env) in let G =
    triple_of 𝓛 g.signature (g.spec 𝓛 𝓜.mem 𝓡.returns) in let K =
    triple_of 𝓛 h.signature (h.spec 𝓛 𝓜.mem 𝓡.returns) in
    proved 𝓛 f.ended stayed c 𝓜 𝓡 (Goes-spent_slice 𝓛 3 (0 ∷ []) tt (plain (λ _. u8)), all_go 𝓛 args) f.Key.name
    code.function (code.unfolded 𝓤 𝓛.H 𝓜 𝓡 wired)
    (λ κs. (mut_slice_vals, spelled args κs)) (λ κs. (mut_slice_Tells (named 0) κs.0 u8, told args κs))
    (λ κs qs bounds a _ are. let r = a.0 in let κ = κs.0 in let q = qs.0 in
    let Ts = types_at (slots args) κs in let y : (walk_of 𝓛 f.ended stayed c).Ghost =
    ((κs, qs, bounds, a, (mut_slice_vals r, valss Ts (spelled args κs) a.1)), tt) in let vss = y.0.4 in
    let name = a.1.1.1.1.1.1.1.0.now.units.now in let fields : FileFields =
    file_fields_given a.1.0 a.1.1.0 a.1.1.1.0 a.1.1.1.1.0 a.1.1.1.1.1.0 a.1.1.1.1.1.1.0 in
    let header : List ℕ = file_header (file_info_size (length name)) fields in
    let others = ‵ (owns Ts a.1 vss.1) in let tokens =
    ‵ (flft κs.1.0 qs.1.0) ⊛ ‵ (flft κs.1.1.0 qs.1.1.0) ⊛ ‵ ftrue in let Rw = Result_row usize Error_row in
    let Rv = View_row (named_lft 3 0 tt κs) in let Re = Result_row Rv Error_row in
    let z : ℕ → ℕ → G.Ghost =
    λ α δ. (((α ∷ [], κs.1), (full_share, qs.1), bounds, (record r { ghost_name = δ }, a.1), vss), tt) in
    let left : ℕ → ℕ → List ℕ × Nothings args → Fml = λ α δ ws. lasts g.ended (z α δ).0.0 (z α δ).0.3 ws in
    opens 𝓛 κ q r tokens others []
    (λ _. enter ! _ _ _ _ _ $ alloc_all !
    (λ l. pass_all ! refl (all_Typed 𝓛 (types_at f.ended.signature.params κs)
    (mut_slice_Lawful 𝓛 (named 0) κ u8, lawfuls 𝓛 args κs) a vss are) $
    sets ! (addr ! (from ! (fld ! refl (hop ! (look_in_at ! 1 (sub ! 0 refl (whole !))) (stop !))))) refl (tt, tt) $
    sets ! (agg ! (and_then ! (get ! refl) (and_then ! (get_in ! (fld ! refl (stop !)) (sub ! 1 refl (whole !)))
    (no_more !)))) refl (tt, (tt, (record { fits = are.0.0.1.0 }, tt))) $
    lends_to 𝓛 κ q r 𝓣 tokens others [] tt Rw (λ ws. ws.0) left (λ w ws. _ ∷ _ ∷ _ ∷ _ ∷ _ ∷ _ ∷ _ ∷ [])
    (λ w ys. WroteRecord file_name_offset file_info_alignment header name r.now (FitFile fields) ys w) G
    (g-thm.met 𝓤 𝓛 𝓜 𝓡 (code.calls-uefi_records::file::write::write_file_info 𝓡.env wired)) z (λ α δ. id⊢ 𝓤 _)
    (λ α δ. and_then ! (get ! refl) ∵ and_then ! (get ! refl) ∵ and_then ! (get ! refl) ∵ and_then ! (get ! refl) ∵
    and_then ! (get ! refl) ∵ and_then ! (get ! refl) ∵ and_then ! (get ! refl) ∵ and_then ! (get ! refl) ∵ no_more !)
    (λ α δ v. id⊢ 𝓤 _) (λ α δ ws. qed 𝓛 (‵ (left α δ ws) ∷ []) ∵ fsplit ! $ fsplit ! $ fsplit ! $ keep !
    (0 ∷ []) $ done !)
    (λ w ws t. wrote t.0 t.1.0 (and_also (FitFile fields) (FitName name) w t.1.1.0 t.1.1.1.0) t.1.1.1.1.0 t.1.1.1.1.1.0
    t.1.1.1.1.1.1.0)
    (λ v w ys held. typed 𝓛 κ q r Rw Written_laws w v
    (λ t. lands_as ! refl refl t.0 $
    sets ! (addr ! (from ! (fld ! refl (hop ! (look_in_at ! 1 (sub ! 0 refl (whole !))) (stop !))))) refl (tt, tt) $
    sets ! (agg ! (and_then ! (get ! refl) (and_then ! (get_in ! (fld ! refl (stop !)) (sub ! 1 refl (whole !)))
    (no_more !)))) refl (tt, (tt, (record { fits = are.0.0.1.0 }, tt))) $
    let zh : K.Ghost =
    (((κ, tt), (q, tt), tt, (as_bor (record r { now = ys }), (w, tt)), (vss.0, (v ∷ [], tt))), tt) in
    shares_with 𝓛 κ q r 𝓣 ys tokens (‵ (Rw.own_val w (v ∷ []))) _
    (record_seen_in file_name_offset file_info_alignment header name r.now (FitFile fields)
    (λ _. length-file_header (file_info_size (length name)) fields) ys w held) Re
    (λ es. lasts h.ended zh.0.0 zh.0.3 es) (λ e (es : Unit {0} × (Unit {0} × Unit {0})). _ ∷ _ ∷ [])
    (λ e. MadeRecord file_name_offset file_info_alignment header name r.now
    (FitFile fields) file_info_view ys e)
    K (h-thm.met 𝓤 𝓛 𝓜 𝓡 (code.calls-uefi_records::file::file_info::FileInfo::over 𝓡.env wired)) zh (id⊢ 𝓤 _)
    (and_then ! (get ! refl) (and_then ! (get ! refl) (no_more !))) (λ v'. id⊢ 𝓤 _)
    (λ e es t. record_made_of file_name_offset file_info_alignment header name r.now (FitFile fields)
    (λ _. length-file_header (file_info_size (length name)) fields) file_info_view ys w e held t.0 t.1.0)
    (λ v' e made. typed 𝓛 κ q r Re (Result_laws Rv Error_row (View_laws (named_lft 3 0 tt κs)) Error_laws) e v'
    (λ t. lands_as ! refl refl t.0 $ returns ! (look_at ! 0 refl) $ free_all ! refl $ suffices ! _
    (ends_at 𝓛 f.ended stayed c y v' e (tt, nothings args) (tt, nothings args)) $
    let seen = file_info_made fields name r.now ys are.0.0.1.0 e made in
    finishes 𝓛 κ q r tokens Re e v' ys
    (λ n. MatchResult e (λ _. n ≡ put_prefix (file_info_bytes fields name) r.now)
    (λ _. n ≡ r.now)) made.after 8 (_ ∷ _ ∷ _ ∷ _ ∷ _ ∷ _ ∷ _ ∷ [])
    (seen.0, (seen.1, (seen.2, (seen.3, (seen.4, (made.fails, (made.fits, tt))))))) (id⊢ 𝓤 _))))))))
