-- The bytes before the first one of a value.
use Rattle.std.proofs.Common.{◌≡◌, ℕ, suc, List, [], ◌∷◌, ◌++◌, ap, refl, arith}
use Rattle.std.specs.Prelude.{true, false, ◌==◌}
use Rattle.std.proofs.lemmas.Bool.{eq-eqb, ne_eqb}
use Rattle.uefi_audits.specs.diff.Counterparts.{before}
use Rattle.uefi_audits.specs.verify.Reading.{Lacks}

-- All bytes, if none has the value; and those that the value follows.
pub whole : (value : ℕ) (bytes : List ℕ) → Lacks value bytes → bytes ≡ before value bytes
whole value [] lacks = refl
whole value (byte ∷ bytes) lacks =
    let other : (byte == value) ≡ false = ne_eqb byte value (lacks 0 byte (omega arith)) in
    rw other (ap (λ rest. byte ∷ rest) (whole value bytes (λ k d within. lacks (suc k) d (omega (arith, within)))))

pub prefix : (value : ℕ) (bytes rest : List ℕ) → Lacks value bytes → bytes ≡ before value (bytes ++ value ∷ rest)
prefix value [] rest lacks = let same : (value == value) ≡ true = eq-eqb value value refl in rw same refl
prefix value (byte ∷ bytes) rest lacks =
    let other : (byte == value) ≡ false = ne_eqb byte value (lacks 0 byte (omega arith)) in
    rw other (ap (λ more. byte ∷ more) (prefix value bytes rest (λ k d within. lacks (suc k) d (omega (arith, within)))))
