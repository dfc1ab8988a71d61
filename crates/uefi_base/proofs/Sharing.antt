-- A `&mut [u8]` that is lent, returned, and then shared for the rest of its lifetime.
use mathlib.Core.Path.{◌≡◌, refl, sym}
use Prim.Native.Nat.{ℕ}
use mathlib.Core.List.{List, [], ◌∷◌}
use mathlib.Core.Option.{none}
use lib.ListN.{length}
use seplogic.Ra.Ura.{Ura}
use base.Stored.{coded_list}
use base.Logic.{ent, sep, ex, guard}
use base.Fml.{Fml, Lft, GName, Share, flft, fdead, fres}
use mir.Syntax.{Lifetime, erased, w8}
use mir.Val.{Val}
use types.Logic.{Logic, sem}
use types.Kit.{‵, ◌⊛◌, later, some, given, ◌$◌, ◌∵◌, !, qed, mean, move, use1, use2, use3, split, fsplit, fjoin, fpack}
use types.Kit.{pick, show, learn, check, await, updating, now as at_once, done, drop}
use denote.Builtin.{u8}
use denote.Plain.{uint_row_laws}
use denote.Ref.{MutBor}
use denote.Shadow.{pure_i, pure_l}
use denote.Slice.{MutSlice, ShrSlice, slice_val, mut_slice_vals, mut_slice_at, shr_slice_at, room, finally}
use denote.Follow.{such_by, follows_by}
use denote.FollowSlice.{finally-res}
use borrow.Rule.Slice.Handed.{sl_Share}
use borrow.Rule.Slice.Lend.{kept_f, sl_relend, sl_relent_backˡ}
use borrow.Table.Owned as Own
use borrow.Table.Copies.{Shares-copy, c_rf}
use borrow.Table.Referent.{f_int}
use Rattle.std.specs.Prelude.{⊤}
use Rattle.uefi_base.specs.Buffer.{EndsAs}

module _ {M : Type 1} {𝓤 : Ura M} (𝓛 : Logic 𝓤) where
  open 𝓛 use {H, A}

  -- The buffer with this name holds these bytes from now on.
  abbrev pub Ended : GName → List ℕ → Fml
  Ended γ xs = fres γ ((coded_list u8.coded).code xs)

  -- The reference becomes a `&[u8]`, its buffer holds these bytes from now on, and the token stays.
  pub shares_all : (ℓ ℓ' : Lifetime) (κ : Lft) (q : Share) (r : MutBor (List ℕ)) (vs : List Val)
      → ent 𝓤 (sep 𝓤 (sem 𝓛 ((MutSlice ℓ κ u8).own_val r vs)) (A.lft κ q))
      (H.⇛ (sep 𝓤 (sem 𝓛 ((ShrSlice ℓ' κ u8).own_val (record { ref_ptr = r.ref_ptr; now = r.now }) vs))
      (sep 𝓤 (sem 𝓛 (Ended r.ghost_name r.now)) (A.lft κ q))))
  shares_all ℓ ℓ' κ q r vs =
      let b = r.ref_ptr.0 in let o = r.ref_ptr.1 in let xs = r.now in
      qed 𝓛 (‵ ((MutSlice ℓ κ u8).own_val r vs) ∷ ‵ (flft κ q) ∷ []) ∵ updating ! $ fsplit ! $
      pure_l ! (mut_slice_at u8 r vs) (λ p.
      pure_i ! (room u8 (length xs)) (tt, tt) p.1 $ fjoin ! $
      use2 𝓛 (later (‵ ((Own.ShrSlice erased κ u8).own_val (record { ref_ptr = r.ref_ptr; now = xs }))
      ⊛ (‵ (finally u8 r.ghost_name xs) ⊛ ‵ (flft κ q))))
      (sl_Share 𝓛 u8 b o r.ghost_name xs (uint_row_laws w8) κ q (Shares-copy 𝓛 (c_rf (f_int w8)) κ)) $ await ! tt $
      split ! $ move ! (1 ∷ []) $ split ! $
      use1 𝓛 (‵ (Ended r.ghost_name xs)) (finally-res 𝓛 u8 r.ghost_name xs) $ move ! (2 ∷ []) $ fsplit ! $ drop ! $
      pure_i ! (shr_slice_at u8 (record { ref_ptr = r.ref_ptr; now = xs }) vs) (tt, (tt, tt)) (p.0, p.1) $ fjoin ! $
      at_once ! $ done !)

  -- A buffer that holds these bytes from now on ends with bytes that have their properties.
  pub ends_as : (s : MutBor (List ℕ)) (v : List ℕ) (Holds : List ℕ → Type 0) → Holds v
      → ent 𝓤 (sem 𝓛 (Ended s.ghost_name v)) (sem 𝓛 (EndsAs s Holds))
  unfolding such_by follows_by
  ends_as s v Holds holds =
      qed 𝓛 (‵ (Ended s.ghost_name v) ∷ []) ∵
      fpack ! ((f : (List ℕ → List ℕ) × List ℕ) × ((w : List ℕ) → ⊤) × Holds f.1)
      (λ f. follows_by (List ℕ) (List ℕ) (coded_list u8.coded).code
      (coded_list u8.coded).code s.ghost_name none f.0.0 f.0.1) (((λ w. w), v), (λ w. tt), holds) $ done !

  -- A `&mut [u8]` is reborrowed for a lifetime within its own.
  pub lends_slice_again : (ℓ ℓ' : Lifetime) (κ : Lft) (q : Share) (κ' : Lft) (r : MutBor (List ℕ))
      → ent 𝓤 (sep 𝓤 (sem 𝓛 ((MutSlice ℓ κ u8).own_val r (mut_slice_vals r))) (A.lft κ q))
      (H.⇛ (ex 𝓤 (λ (δ : ℕ). sep 𝓤
      (sem 𝓛 ((MutSlice ℓ' κ' u8).own_val (record r { ghost_name = δ }) (mut_slice_vals r)))
      (mean 𝓛 (kept_f 𝓛 u8 κ q κ' r.ghost_name δ r.now r.ref_ptr.0 r.ref_ptr.1)))))
  lends_slice_again ℓ ℓ' κ q κ' r =
      let b = r.ref_ptr.0 in let o = r.ref_ptr.1 in let xs = r.now in
      qed 𝓛 (‵ ((MutSlice ℓ κ u8).own_val r (mut_slice_vals r)) ∷ ‵
      (flft κ q) ∷ []) ∵ updating ! $ fsplit ! $ pure_l ! (mut_slice_at u8 r (mut_slice_vals r)) (λ p.
      pure_i ! (room u8 (length xs)) (tt, tt) p.1 $ fjoin ! $
      use2 𝓛 (later (some (λ (δ : ℕ). ‵ ((Own.MutSlice erased κ' u8).own_val (record r { ghost_name = δ })) ⊛
      (kept_f 𝓛 u8 κ q κ' r.ghost_name δ xs b o))))
      (sl_relend 𝓛 u8 κ q κ' b o r.ghost_name xs) $ await ! tt $ pick ! (λ δ. split ! $ fsplit ! $ drop ! $
      pure_i ! (mut_slice_at u8 (record r { ghost_name = δ }) (mut_slice_vals r)) (tt, (tt, tt)) (refl, p.1) $
      fjoin ! $ at_once ! $
      show ! (λ (e : ℕ). sep 𝓤
      (sem 𝓛 ((MutSlice ℓ' κ' u8).own_val (record r { ghost_name = e }) (mut_slice_vals r)))
      (mean 𝓛 (kept_f 𝓛 u8 κ q κ' r.ghost_name e r.now r.ref_ptr.0 r.ref_ptr.1))) δ $ done !))

  -- After that lifetime it is back, with the bytes that were last written to it.
  pub slice_comes_back : (ℓ : Lifetime) (κ : Lft) (q : Share) (κ' : Lft) (r : MutBor (List ℕ)) (δ : GName) (ys : List ℕ)
      → ent 𝓤 (sep 𝓤 (A.dead κ') (sep 𝓤 (mean 𝓛 (kept_f 𝓛 u8 κ q κ' r.ghost_name δ r.now r.ref_ptr.0 r.ref_ptr.1))
      (sem 𝓛 (finally u8 δ ys))))
      (H.⇛ (guard 𝓤 (length ys ≡ length r.now)
      (sep 𝓤 (sem 𝓛 ((MutSlice ℓ κ u8).own_val (record r { now = ys }) (mut_slice_vals r))) (A.lft κ q))))
  slice_comes_back ℓ κ q κ' r δ ys =
      let b = r.ref_ptr.0 in let o = r.ref_ptr.1 in
      qed 𝓛 (‵ (fdead κ') ∷ (kept_f 𝓛 u8 κ q κ' r.ghost_name δ r.now b o) ∷ ‵ (finally u8 δ ys) ∷ []) ∵ updating ! $
      use3 𝓛 (later (given (length ys ≡ length r.now)
      (‵ ((Own.MutSlice erased κ u8).own_val (record r { now = ys })) ⊛ ‵ (flft κ q))))
      (sl_relent_backˡ 𝓛 u8 κ q κ' b o r.ghost_name δ r.now ys) $ await ! tt $ learn !
      (λ e. split ! $ fsplit ! $
      pure_l ! (room u8 (length ys)) (λ p. pure_i ! (mut_slice_at u8 (record r { now = ys }) (mut_slice_vals r))
      (tt, (tt, tt)) ((λ i. slice_val r.ref_ptr (sym e i) ∷ []), p) $ fjoin ! $ at_once ! $ check ! e $ done !))
