-- What a buffer ends as, once a map over it was asked for, and what the map that was made says of it.
use Rattle.std.proofs.Common.{◌≡◌, ℕ, List, [], Bool, true, false, length, refl, sym, subst}
use Rattle.std.specs.Prelude.{⊤, ◌∷◌, Result, Ok, Err, IsOk, IfOk, IfErr, IsTrue, ◌↔◌}
use Rattle.std.specs.Borrow.{RestsIfErr, MutBor, GName, Array, u8 as byte}
use mathlib.Core.Bool.{not}
use mathlib.Core.Option as maybe
use lib.Dec.{T}
use seplogic.Ra.Ura.{Ura}
use base.Logic.{ent, emp, wand}
use base.Fml.{Fml, fres, fauth, fex, fsep, feq}
use types.Logic.{Logic, sem}
use types.Kit.{‵, use0, ◌$◌, ◌∵◌, !, qed, fpack, fjoin, feq_i, each, assume, done}
use base.Stored.{coded_list}
use denote.Builtin.{u8}
use denote.Follow.{follows, follows_by, such_by}
use Rattle.uefi_base.proofs.Sharing.{Ended}
use Rattle.uefi_map.specs.memory.Map.{IsMap}
use Rattle.uefi_map.specs.memory.Views.{mut_bytes, mut_meta, WritesTo}
use Rattle.uefi_map.specs.declared.memory.meta.MemoryMapMeta.{MemoryMapMeta}
use Rattle.uefi_map.specs.declared.memory.map_error.MemoryMapError.{MemoryMapError}
use Rattle.uefi_map.specs.declared.memory.map_error.MemoryMapError.TheVariants.{InvalidSize}
use Rattle.uefi_map.specs.declared.memory.map_ref_mut.MemoryMapRefMut.{MemoryMapRefMut}

-- A test that holds is true.
pub is_true : (test : Bool) → T test → test ≡ true
is_true true so = refl
is_true false so = absurd so

not_both : (test : Bool) → T (not test) → test ≡ true → ⊥
not_both true no_test so = no_test
not_both false no_test so = let h : false ≡ true = so in cc

-- What the plain clauses of `MemoryMapRefMut::new` say of its result.
module _ (lender : MutBor (List ℕ)) (sizes : MemoryMapMeta) where
  pub record Returned (made : Result MemoryMapRefMut MemoryMapError) : Type 0 where
    pub accepted : IsOk made ↔ IsMap (length lender.now) sizes
    pub buffer : IfOk made (λ map. mut_bytes map ≡ lender.now)
    pub meta : IfOk made (λ map. mut_meta map ≡ sizes)
    pub refused : IfErr made (λ error. error ≡ InvalidSize)
    pub same_buffer : IfOk made (WritesTo lender)

  pub returned_map : (made : Result MemoryMapRefMut MemoryMapError) → IsMap (length lender.now) sizes → IsOk made
      → IfOk made (λ map. mut_bytes map ≡ lender.now)
      → IfOk made (λ map. mut_meta map ≡ sizes) → IfOk made (WritesTo lender) → Returned made
  returned_map (Ok map) is_map ok bytes given same = assumption
  returned_map (Err error) is_map ok bytes given same = let h : false ≡ true = ok in cc

  pub returned_none : (made : Result MemoryMapRefMut MemoryMapError) (test : Bool)
      → IsTrue test ↔ IsMap (length lender.now) sizes → T (not test) → made ≡ Err InvalidSize → Returned made
  returned_none made test judged no_map is =
      subst Returned (sym is)
      (record {
        accepted = (
          (λ ok. let h : false ≡ true = ok in
              cc),
          (λ is_map. absurd (not_both test no_map (judged.1 is_map))),
        );
        buffer = tt;
        meta = tt;
        refused = refl;
        same_buffer = tt;
      })

module _ {M : Type 1} {𝓤 : Ura M} (𝓛 : Logic 𝓤) where
  open 𝓛 use {A}

  -- A reference ends as itself.
  ends_as_itself : (γ : GName) → ent 𝓤 (emp 𝓤) (sem 𝓛 (follows (Array byte 0) (Array byte 0) γ γ (λ w. w)))
  ends_as_itself γ =
      let R = Array byte 0 in
      let From : List ℕ → List ℕ → Fml = λ z w. fsep (feq (List ℕ) z w) (fauth γ (R.coded.code w)) in
      let said = qed 𝓛 [] ∵ each ! (λ (w : List ℕ). wand 𝓤 (A.res γ (R.coded.code w)) (A.res γ (R.coded.code w)))
      (λ w. assume ! (‵ (fres γ (R.coded.code w))) $ done !) in
      let back = qed 𝓛 [] ∵ each ! (λ (z : List ℕ). wand 𝓤 (A.auth γ (R.coded.code z))
      (sem 𝓛 (fex (List ℕ) (From z)))) (λ z. assume ! (‵ (fauth γ (R.coded.code z))) $
      feq_i ! (List ℕ) z z refl $ fjoin ! $ fpack ! (List ℕ) (From z) z $ done !) in
      record { apply = λ a p. (said.apply a p, back.apply a p) }

  module _ {T E : Type 0} (name : T → GName) (s : MutBor (List ℕ)) (P : List ℕ → Type 0) where
    -- A value with that reference in it says all.
    pub rests_in : (made : Result T E) → IsOk made → IfOk made (λ x. name x ≡ s.ghost_name)
        → ent 𝓤 (emp 𝓤) (sem 𝓛 (RestsIfErr (Array byte 0) s name made P))
    unfolding such_by follows_by
    rests_in (Ok x) ok same =
        subst (λ (γ : GName). ent 𝓤 (emp 𝓤)
        (sem 𝓛 (such_by (List ℕ) (List ℕ) (Array byte 0).coded.code (Array byte 0).coded.code s.ghost_name
        (maybe.some γ) (λ x n. n ≡ x) (λ n. ⊤)))) (sym same)
        (qed 𝓛 [] ∵ use0 𝓛 (‵ (follows (Array byte 0) (Array byte 0) s.ghost_name s.ghost_name (λ w. w)))
        (ends_as_itself s.ghost_name) $
        fpack ! ((f : (List ℕ → List ℕ) × List ℕ) × ((w : List ℕ) → f.0 w ≡ w) × ⊤)
        (λ f. follows_by (List ℕ) (List ℕ) (Array byte 0).coded.code (Array byte 0).coded.code s.ghost_name
        (maybe.some s.ghost_name) f.0.0 f.0.1) (((λ w. w), []), (λ w. refl), tt) $ done !)
    rests_in (Err e) ok same = let h : false ≡ true = ok in cc

    -- Where there is none, the buffer that holds these bytes for good says all.
    pub rests_as : (v : List ℕ) → P v → (made : Result T E) (e : E) → made ≡ Err e
        → ent 𝓤 (sem 𝓛 (Ended 𝓛 s.ghost_name v)) (sem 𝓛 (RestsIfErr (Array byte 0) s name made P))
    unfolding such_by follows_by
    rests_as v holds made e is =
        subst (λ (r : Result T E). ent 𝓤 (sem 𝓛 (Ended 𝓛 s.ghost_name v))
        (sem 𝓛 (RestsIfErr (Array byte 0) s name r P))) (sym is)
        (qed 𝓛 (‵ (Ended 𝓛 s.ghost_name v) ∷ []) ∵
        fpack ! ((f : (List ℕ → List ℕ) × List ℕ) × ((w : List ℕ) → ⊤) × P f.1)
        (λ f. follows_by (List ℕ) (List ℕ) (coded_list u8.coded).code
        (coded_list u8.coded).code s.ghost_name maybe.none f.0.0 f.0.1)
        (((λ w. w), v), (λ w. tt), holds) $ done !)
