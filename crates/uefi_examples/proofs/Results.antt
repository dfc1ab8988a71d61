-- Results, of which `?` takes the value.
use Rattle.std.proofs.Common.{◌≡◌, ap, false, true}
use Rattle.std.specs.Prelude.{None, Some, Result, Ok, Err, IfErr, IsOk}
use Rattle.std.specs.Result.{result_ok}

-- A result with the value is `Ok` of it.
pub ok_is : {V E : Type 0} (result : Result V E) (value : V) → Some value ≡ result_ok result → result ≡ Ok value
ok_is (Ok found) value is = let same : found ≡ value = cc in ap (λ v. Ok v) same
ok_is (Err error) value is = absurd (cc)

-- A result without a value has an error, and isn't `Ok`.
pub error_of : {V E : Type 0} (P : E → Type 0) (result : Result V E) → None ≡ result_ok result → IfErr result P
    → (error : E) × P error
error_of P (Ok value) none holds = absurd (cc)
error_of P (Err error) none holds = (error, holds)

pub not_ok : {V E : Type 0} (result : Result V E) → None ≡ result_ok result → IsOk result → ⊥
not_ok (Ok value) none ok = cc
not_ok (Err error) none ok = let so : false ≡ true = ok in cc
