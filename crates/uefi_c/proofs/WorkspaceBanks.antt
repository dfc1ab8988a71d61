-- The bank that memory of a caller's keeps, by its algorithm.
use Rattle.std.proofs.Common.{◌≡◌, ℕ, refl, subst, sym}
use Rattle.std.proofs.lemmas.Bool.{ne_eqb}
use Rattle.pcr_replay.specs.Banks.{algorithm_of}
use Rattle.pcr_replay.specs.declared.bank.Bank.{Bank}
use Rattle.pcr_replay.specs.declared.bank.Bank.TheVariants.{Sha1, Sha256, Sha384, Sha512, Sm3}
use Rattle.uefi_c.specs.Workspace.{bank_given}

pub its_bank : (bank : Bank) (algorithm : ℕ) → algorithm_of bank ≡ algorithm → bank ≡ bank_given algorithm
its_bank Sha1 algorithm is = subst (λ n. Sha1 ≡ bank_given n) is refl
its_bank Sha256 algorithm is = subst (λ n. Sha256 ≡ bank_given n) is refl
its_bank Sha384 algorithm is = subst (λ n. Sha384 ≡ bank_given n) is refl
its_bank Sha512 algorithm is = subst (λ n. Sha512 ≡ bank_given n) is refl
its_bank Sm3 algorithm is = subst (λ n. Sm3 ≡ bank_given n) is refl

pub no_bank : (algorithm : ℕ) → ((bank : Bank) → algorithm_of bank ≡ algorithm → ⊥) → Sha1 ≡ bank_given algorithm
no_bank algorithm none = simp (
  ne_eqb algorithm (algorithm_of Sha256) (λ is. none Sha256 (sym is)),
  ne_eqb algorithm (algorithm_of Sha384) (λ is. none Sha384 (sym is)),
  ne_eqb algorithm (algorithm_of Sha512) (λ is. none Sha512 (sym is)),
  ne_eqb algorithm (algorithm_of Sm3) (λ is. none Sm3 (sym is)),
) refl
