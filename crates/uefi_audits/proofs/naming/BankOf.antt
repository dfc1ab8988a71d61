-- The bank of an algorithm, from what `Bank::of` returned.
use Rattle.std.proofs.Common.{◌≡◌, ℕ, refl, sym}
use Rattle.std.specs.Prelude.{Option, Some, None, IfSome, IfNone}
use Rattle.std.proofs.lemmas.Bool.{ne_eqb}
use Rattle.pcr_replay.specs.declared.bank.Bank.{Bank}
use Rattle.pcr_replay.specs.declared.bank.Bank.TheVariants.{Sha1, Sha256, Sha384, Sha512, Sm3}
use Rattle.pcr_replay.specs.Banks.{algorithm_of}
use Rattle.uefi_audits.specs.Naming.{bank_of}

found : (algorithm : ℕ) (bank : Bank) → algorithm_of bank ≡ algorithm → Some bank ≡ bank_of algorithm
unfolding bank_of
found algorithm Sha1 is = rw (← is) refl
found algorithm Sha256 is = rw (← is) refl
found algorithm Sha384 is = rw (← is) refl
found algorithm Sha512 is = rw (← is) refl
found algorithm Sm3 is = rw (← is) refl

missed : (algorithm : ℕ) → ((bank : Bank) → algorithm_of bank ≡ algorithm → ⊥) → None ≡ bank_of algorithm
unfolding bank_of
missed algorithm other = simp (
  ne_eqb algorithm 0x04 (λ is. other Sha1 (sym is)),
  ne_eqb algorithm 0x0b (λ is. other Sha256 (sym is)),
  ne_eqb algorithm 0x0c (λ is. other Sha384 (sym is)),
  ne_eqb algorithm 0x0d (λ is. other Sha512 (sym is)),
  ne_eqb algorithm 0x12 (λ is. other Sm3 (sym is)),
) refl

pub bank_found : (algorithm : ℕ) (bank : Option Bank) → IfSome bank (λ b. algorithm_of b ≡ algorithm)
    → IfNone bank ((b : Bank) → algorithm_of b ≡ algorithm → ⊥) → bank ≡ bank_of algorithm
bank_found algorithm (Some bank) is none = found algorithm bank is
bank_found algorithm None is none = missed algorithm none
