-- Records that were read.
use Rattle.std.proofs.Common.{◌≡◌, ◌∙◌, ℕ, List, length, take, refl, sym, subst}
use Rattle.std.specs.Prelude.{Option, None, Some, Result, Ok, Err, IfOk, IfSome, IsSome}
use Rattle.std.specs.Result.{result_ok}
use Rattle.uefi_base.specs.declared.status.Error.{Error}
use Rattle.uefi_base.specs.declared.status.Status.{Status}
use Rattle.uefi_base.specs.Views.{error_status, error_data}
use Rattle.uefi_records.specs.Laws.{WrittenAlone}
use Rattle.uefi_records.specs.file.Verdict.{Verdict, FollowsVerdict, Refuses, accepted}
use Rattle.uefi_records.specs.file.Verdict.{too_small, verdict, without_name}

-- A record that was read has a name.
pub has_name : {V : Type 0} (name_of : V → List ℕ) (verdict : Verdict) (result : Result V (Error (Option ℕ))) (read : V)
    → FollowsVerdict name_of verdict result → Some read ≡ result_ok result → (name : List ℕ) × (verdict ≡ accepted name)
has_name name_of verdict (Ok view) read follows is = (name_of view, follows)
has_name name_of verdict (Err error) read follows is = cc

-- Where no record was read, there is no name.
pub has_none : {V : Type 0} (name_of : V → List ℕ) (verdict : Verdict) (result : Result V (Error (Option ℕ)))
    (name : List ℕ)
    → FollowsVerdict name_of verdict result → None ≡ result_ok result → verdict ≡ accepted name → ⊥
has_none name_of verdict (Ok view) name follows none is = cc
has_none name_of verdict (Err error) name follows none is = rw is at follows

-- A reader that follows a verdict with a name returns that name.
pub is_named : {V : Type 0} (name_of : V → List ℕ) (verdict : Verdict) (name : List ℕ)
    (result : Result V (Error (Option ℕ)))
    → FollowsVerdict name_of verdict result → verdict ≡ accepted name → IfOk result (λ view. name_of view ≡ name)
is_named name_of verdict name (Ok view) follows is = let both : accepted (name_of view) ≡ accepted name = sym follows
    ∙ is in cc
is_named name_of verdict name (Err error) follows is = tt

-- A reader that follows a verdict with a name returns a record.
pub is_read : {V : Type 0} (name_of : V → List ℕ) (verdict : Verdict) (name : List ℕ)
    (result : Result V (Error (Option ℕ))) (option : Option V)
    → option ≡ result_ok result → FollowsVerdict name_of verdict result → verdict ≡ accepted name → IsSome option
is_read name_of verdict name (Ok view) option is follows accepts = rw is refl
is_read name_of verdict name (Err error) option is follows accepts =
    absurd (subst (λ v. Refuses v error) accepts follows)

-- What holds of a result's value holds of the option that it becomes.
pub IfSome_of_ok : {V E : Type 0} (P : V → Type 0) (result : Result V E) (option : Option V)
    → option ≡ result_ok result → IfOk result P → IfSome option P
IfSome_of_ok P (Ok value) option is holds = rw is holds
IfSome_of_ok P (Err error) option is holds = rw is tt

-- So does what a field of the value is.
pub IfSome_is : {V E X : Type 0} (field : V → X) (x y : X) (result : Result V E) (option : Option V)
    → option ≡ result_ok result → x ≡ y → IfOk result (λ value. field value ≡ x)
    → IfSome option (λ value. field value ≡ y)
IfSome_is field x y (Ok value) option is same holds = rw is (holds ∙ same)
IfSome_is field x y (Err error) option is same holds = rw is tt

-- Errors with one status and one data are equal.
by_parts : (one other : Error (Option ℕ)) → error_status one ≡ error_status other → error_data one ≡ error_data other
    → one ≡ other
by_parts one other status payload =
    let make : Status → Option ℕ → Error (Option ℕ) = λ s d. record { status = s; «data» = d } in
    let same : make one.status one.«data» ≡ make other.status other.«data» = cc in same

-- Errors for one verdict are equal.
one_error : (verdict : Verdict) (one other : Error (Option ℕ)) → Refuses verdict one → Refuses verdict other
    → one ≡ other
one_error without_name one other said also = by_parts one other (said.0 ∙ sym also.0) (said.1 ∙ sym also.1)
one_error (too_small size) one other said also = by_parts one other (said.0 ∙ sym also.0) (said.1 ∙ sym also.1)
one_error (accepted name) one other said also = absurd said

-- Two buffers of one length that agree on the written bytes: both are refused with one error, or both accepted with
-- one name.
module _ (law : WrittenAlone) (offset alignment written : ℕ) (one other : List ℕ)
    (lengths : length one ≡ length other) (same : take written one ≡ take written other) where
  one_verdict : verdict offset alignment (take written one) (length one)
      ≡ verdict offset alignment (take written other) (length other)
  one_verdict = law.verdicts offset alignment written one other lengths same

  pub errors_alike : (error also : Error (Option ℕ))
      → Refuses (verdict offset alignment (take written one) (length one)) error
      → Refuses (verdict offset alignment (take written other) (length other)) also → error ≡ also
  errors_alike error also refused refused_too =
      one_error _ error also (subst (λ v. Refuses v error) one_verdict refused) refused_too

  pub names_alike : (name also : List ℕ)
      → verdict offset alignment (take written one) (length one) ≡ accepted name
      → verdict offset alignment (take written other) (length other) ≡ accepted also → name ≡ also
  names_alike name also is is_too =
      let both : accepted name ≡ accepted also = sym is ∙ (one_verdict ∙ is_too) in cc

  pub not_refused_alone : {X : Type 0} (name : List ℕ) (error : Error (Option ℕ))
      → verdict offset alignment (take written one) (length one) ≡ accepted name
      → Refuses (verdict offset alignment (take written other) (length other)) error → X
  not_refused_alone name error is refused = absurd (subst (λ v. Refuses v error) (sym one_verdict ∙ is) refused)
