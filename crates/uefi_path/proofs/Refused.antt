-- What a builder's buffer ends as, once a node was pushed or refused.
use Rattle.std.proofs.Common.{◌≡◌, ℕ, List, [], true, false, refl, sym, subst}
use Rattle.std.specs.Prelude.{⊤, ◌∷◌, Result, Ok, Err, IsOk, IfOk, OnErr}
use Rattle.std.specs.Borrow.{RestsIfErr, MutBor, GName, Array, u8 as byte}
use mathlib.Core.Option as maybe
use seplogic.Ra.Ura.{Ura}
use base.Logic.{ent, emp, wand}
use base.Fml.{Fml, fres, fauth, fex, fsep, feq}
use types.Logic.{Logic, sem}
use types.Kit.{‵, use0, ◌$◌, ◌∵◌, !, qed, fpack, fjoin, feq_i, each, assume, done}
use base.Stored.{coded_list}
use denote.Builtin.{u8}
use denote.Follow.{follows, follows_by, such_by}
use Rattle.uefi_base.proofs.Sharing.{Ended}

module _ {M : Type 1} {𝓤 : Ura M} (𝓛 : Logic 𝓤) where
  open 𝓛 use {A}

  -- A reference ends as itself.
  ends_as_itself : (γ : GName) → ent 𝓤 (emp 𝓤) (sem 𝓛 (follows (Array byte 0) (Array byte 0) γ γ (λ w. w)))
  ends_as_itself γ =
      let R = Array byte 0 in
      let From : List ℕ → List ℕ → Fml = λ z w. fsep (feq (List ℕ) z w) (fauth γ (R.coded.code w)) in
      let said = qed 𝓛 [] ∵ each ! (λ (w : List ℕ). wand 𝓤 (A.res γ (R.coded.code w)) (A.res γ (R.coded.code w)))
      (λ w. assume ! (‵ (fres γ (R.coded.code w))) $ done !) in
      let back = qed 𝓛 [] ∵ each ! (λ (z : List ℕ). wand 𝓤 (A.auth γ (R.coded.code z))
      (sem 𝓛 (fex (List ℕ) (From z)))) (λ z. assume ! (‵ (fauth γ (R.coded.code z))) $
      feq_i ! (List ℕ) z z refl $ fjoin ! $ fpack ! (List ℕ) (From z) z $ done !) in
      record { apply = λ a p. (said.apply a p, back.apply a p) }

  module _ {T E : Type 0} (name : T → GName) (s : MutBor (List ℕ)) (P : List ℕ → Type 0) where
    -- A value with that reference in it says all.
    pub rests_in : (made : Result T E) → IsOk made → IfOk made (λ x. name x ≡ s.ghost_name)
        → ent 𝓤 (emp 𝓤) (sem 𝓛 (RestsIfErr (Array byte 0) s name made P))
    unfolding such_by follows_by
    rests_in (Ok x) ok same =
        subst (λ (γ : GName). ent 𝓤 (emp 𝓤)
        (sem 𝓛 (such_by (List ℕ) (List ℕ) (Array byte 0).coded.code (Array byte 0).coded.code s.ghost_name
        (maybe.some γ) (λ x n. n ≡ x) (λ n. ⊤)))) (sym same)
        (qed 𝓛 [] ∵ use0 𝓛 (‵ (follows (Array byte 0) (Array byte 0) s.ghost_name s.ghost_name (λ w. w)))
        (ends_as_itself s.ghost_name) $
        fpack ! ((f : (List ℕ → List ℕ) × List ℕ) × ((w : List ℕ) → f.0 w ≡ w) × ⊤)
        (λ f. follows_by (List ℕ) (List ℕ) (Array byte 0).coded.code (Array byte 0).coded.code s.ghost_name
        (maybe.some s.ghost_name) f.0.0 f.0.1) (((λ w. w), []), (λ w. refl), tt) $ done !)
    rests_in (Err e) ok same = let h : false ≡ true = ok in cc

    -- Where there is none, the buffer that holds these bytes for good says all.
    pub rests_as : (v : List ℕ) (made : Result T E) → (IsOk made → ⊥) → OnErr made (P v)
        → ent 𝓤 (sem 𝓛 (Ended 𝓛 s.ghost_name v)) (sem 𝓛 (RestsIfErr (Array byte 0) s name made P))
    unfolding such_by follows_by
    rests_as v (Ok x) none holds = absurd (none refl)
    rests_as v (Err e) none holds =
        qed 𝓛 (‵ (Ended 𝓛 s.ghost_name v) ∷ []) ∵
        fpack ! ((f : (List ℕ → List ℕ) × List ℕ) × ((w : List ℕ) → ⊤) × P f.1)
        (λ f. follows_by (List ℕ) (List ℕ) (coded_list u8.coded).code
        (coded_list u8.coded).code s.ghost_name maybe.none f.0.0 f.0.1)
        (((λ w. w), v), (λ w. tt), holds) $ done !
