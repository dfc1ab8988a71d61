-- A record that was written into a buffer, and the view of it that was then made.
use Rattle.std.proofs.Common.{◌≡◌, ℕ, ◌≤◌, List, length, take, drop, refl, sym, ◌∙◌, ap, subst, arith}
use Rattle.std.specs.Prelude.{Result, Ok, Err, IfOk, OnOk, IfErr, OnErr, IsOk, MatchResult, ◌↔◌}
use Rattle.std.proofs.lemmas.Grind.{common_steps}
use Rattle.std.proofs.lemmas.List.{take_at}
use Rattle.uefi_base.specs.Buffer.{put_prefix}

-- What holds of one value of a result holds with what else does.
pub and_also : {T E : Type 0} (P Q : Type 0) (r : Result T E) → OnOk r P → OnOk r Q → OnOk r (P × Q)
and_also P Q (Ok v) p q = (p, q)
and_also P Q (Err e) p q = tt

-- What a writer ensures: where the record ends, what the buffer holds, what holds of the record, and when the writer
-- fails and how.
pub record Wrote {E : Type 0} (part old new : List ℕ) (size : ℕ) (Is Fits : Type 0) (Fails : E → Type 0)
    (written : Result ℕ E) : Type 0 where
  pub end : IfOk written (λ end. end ≡ size)
  pub put : OnOk written (new ≡ put_prefix part old)
  pub is : OnOk written Is
  pub fails : IfErr written Fails
  pub unchanged : OnErr written (new ≡ old)
  pub fits : IsOk written ↔ Fits

-- The same of its clauses, one by one.
pub wrote : {E : Type 0} {part old new : List ℕ} {size : ℕ} {Is Fits : Type 0} {Fails : E → Type 0}
    {written : Result ℕ E} → IfOk written (λ end. end ≡ size) → OnOk written (new ≡ put_prefix part old)
    → OnOk written Is → IfErr written Fails → OnErr written (new ≡ old) → IsOk written ↔ Fits
    → Wrote part old new size Is Fits Fails written
wrote end put is fails unchanged fits = assumption

-- What holds of the view, and of the buffer in the end.
pub record Made {V E : Type 0} (view : V → List ℕ) (part old new : List ℕ) (Is Fits : Type 0) (Fails : E → Type 0)
    (made : Result V E) : Type 0 where
  pub after : MatchResult made (λ _. new ≡ put_prefix part old) (λ _. new ≡ old)
  pub seen : IfOk made (λ v. (view v ≡ part) × Is × Fits)
  pub fails : IfErr made Fails
  pub fits : IsOk made ↔ Fits

part_put : (part old new : List ℕ) (end size : ℕ) → length part ≡ size → end ≡ size → new ≡ put_prefix part old
    → take end new ≡ part
part_put part old new end size sized ended put = ap (take end) put
    ∙ take_at part (drop (length part) old) end (sized ∙ sym ended)

module _ {E : Type 0} {part old new : List ℕ} {size : ℕ} {Is Fits : Type 0} {Fails : E → Type 0}
    (sized : Is → Fits → length part ≡ size) where
  -- The part is in the buffer up to where the writer says that it ends.
  pub seen_in : (Whole : List ℕ → Type 0) → (Is → Fits → Whole part) → (written : Result ℕ E)
      → Wrote part old new size Is Fits Fails written
      → IfOk written (λ end. (end ≤ length new) × Whole (take end new))
  seen_in Whole whole (Ok end) wrote =
      let fits : Fits = wrote.fits.0 refl in
      let put : new ≡ put_prefix part old = wrote.put in (
        grind (arith, common_steps, sized wrote.is fits, wrote.end),
        subst Whole
            (sym (part_put part old new end size (sized wrote.is fits) wrote.end wrote.put)) (whole wrote.is fits),
      )
  seen_in Whole whole (Err error) wrote = tt

  -- A view of the part is made exactly if it was written.
  pub made_of : {V : Type 0} (view : V → List ℕ) (written : Result ℕ E) (made : Result V E)
      → Wrote part old new size Is Fits Fails written
      → MatchResult written (λ end. IfOk made (λ v. view v ≡ take end new)) (λ error. made ≡ Err error)
      → IsOk made ↔ IsOk written → Made view part old new Is Fits Fails made
  made_of view (Ok end) (Ok v) wrote seen ok =
      let fits : Fits = wrote.fits.0 refl in
      assumption (seen ∙ part_put part old new end size (sized wrote.is fits) wrote.end wrote.put)
  made_of view (Ok end) (Err error) wrote seen ok = let none = ok.1 refl in cc
  made_of view (Err error) (Ok v) wrote seen ok = let none = ok.0 refl in cc
  made_of view (Err error) (Err other) wrote seen ok =
      let same : other ≡ error = cc in assumption (subst Fails (sym same) wrote.fails)
