-- The bytes of a clock.
use Rattle.std.proofs.Common.{◌≡◌, ℕ, zero, suc, ◌<◌, ◌^◌, ◌==◌, Bool, true, false, List, ◌∷◌, ◌++◌, nat_lt}
use Rattle.std.proofs.Common.{◌⊎◌, inl, inr, refl, sym, ◌∙◌, ap, arith}
use Rattle.std.proofs.lemmas.Bool.{lt-ltb, ltb-true}
use Rattle.tpm_quote.specs.BigEndian.{u32_bytes, u64_bytes}
use Rattle.tpm_quote.specs.Quote.{ClockInfo, IsClockInfo, yes_no}
use Rattle.tpm_quote.specs.private.Reading.{split_clock_info, split_yes_no}
use Rattle.tpm_quote.specs.declared.quote_error.QuoteError.{QuoteError}
use Rattle.tpm_quote.specs.declared.quote_error.QuoteError.TheVariants.{Safe}
use Rattle.tpm_quote.proofs.Fields.{no_byte, one_byte, u8_reader, u32_reader, u64_reader}
use Rattle.tpm_quote.proofs.Reader.{IsReader, Never, Breaking, BreaksAfter, fits_reader, guard_reader, last_reader, then_reader}

-- The bytes begin with a byte that is neither 0 nor 1.
pub record NeitherYesNorNo (x : List ℕ) (e : QuoteError) : Type 0 where
  pub value : ℕ
  pub fits : value < 256
  pub other : 1 < value
  pub error : e ≡ Safe value
  pub rest : List ℕ
  pub parts : x ≡ value ∷ rest

-- A byte that passes for one.
byte_passes : (n : ℕ) → (n < 256) × (nat_lt 1 n ≡ false) → Unit {0} × (yes_no (n == 1) ≡ n)
byte_passes zero is = (tt, refl)
byte_passes (suc zero) is = (tt, refl)
byte_passes (suc (suc n)) is = let above : nat_lt 1 (suc (suc n)) ≡ true = lt-ltb 1 (suc (suc n)) (omega arith) in absurd cc

yes_no_back : (b : Bool) → (yes_no b == 1) ≡ b
yes_no_back true = refl
yes_no_back false = refl

yes_no_fits : (b : Bool) → (yes_no b < 256) × (nat_lt 1 (yes_no b) ≡ false)
yes_no_fits true = (omega arith, refl)
yes_no_fits false = (omega arith, refl)

abbrev OtherByte : Breaking
OtherByte x e = Never x e
    ⊎ BreaksAfter one_byte (λ n. n < 256) (λ n x e. (nat_lt 1 n ≡ true) × (Safe n ≡ e)) x e

other_byte : (x : List ℕ) (e : QuoteError) → OtherByte x e → NeitherYesNorNo x e
other_byte x e (inl never) = absurd never
other_byte x e (inr after) = record {
  value = after.field;
  fits = after.is;
  other = ltb-true 1 after.field after.broken.0;
  error = sym after.broken.1;
  rest = after.rest;
  parts = after.parts;
}

from_other_byte : (x : List ℕ) (e : QuoteError) → NeitherYesNorNo x e → OtherByte x e
from_other_byte x e why = inr (record {
  field = why.value;
  is = why.fits;
  rest = why.rest;
  parts = why.parts;
  broken = (lt-ltb 1 why.value why.other, sym why.error);
})

abbrev yes_no_bytes : Bool → List ℕ
yes_no_bytes b = one_byte (yes_no b)

pub yes_no_reader : IsReader split_yes_no yes_no_bytes (λ b. Unit {0}) NeitherYesNorNo
unfolding split_yes_no
yes_no_reader = fits_reader
    (last_reader {Known = λ b. Unit {0}}
    (guard_reader u8_reader (λ n. nat_lt 1 n) (λ n. Safe n) (no_byte (λ n. nat_lt 1 n) refl) (0, omega arith, refl))
    (λ n. n == 1) yes_no byte_passes (λ b known. yes_no_back b))
    (λ b is. tt) (λ b is. (tt, yes_no_fits b)) (λ b is. refl) other_byte from_other_byte

-- The bytes of a clock, of which the last is `safe`.
abbrev pub before_safe_byte : ClockInfo → List ℕ → List ℕ
before_safe_byte c rest = u64_bytes c.clock ++ (u32_bytes c.reset_count ++ (u32_bytes c.restart_count ++ rest))

abbrev pub clock_bytes : ClockInfo → List ℕ
clock_bytes c = before_safe_byte c (yes_no_bytes c.safe)

-- The bytes begin with a clock but for its last byte.
pub record HasOtherSafeByte (x : List ℕ) (e : QuoteError) : Type 0 where
  pub clock : ClockInfo
  pub is : IsClockInfo clock
  pub rest : List ℕ
  pub parts : x ≡ before_safe_byte clock rest
  pub safe : NeitherYesNorNo rest e

abbrev AfterRestarts : Breaking
AfterRestarts x e = Never x e ⊎ BreaksAfter u32_bytes (λ n. n < 2 ^ 32) (λ restarts. NeitherYesNorNo) x e

abbrev AfterResets : Breaking
AfterResets x e = Never x e ⊎ BreaksAfter u32_bytes (λ n. n < 2 ^ 32) (λ resets. AfterRestarts) x e

abbrev AfterClock : Breaking
AfterClock x e = Never x e ⊎ BreaksAfter u64_bytes (λ n. n < 2 ^ 64) (λ clock. AfterResets) x e

abbrev clock_given : ℕ → ℕ → ℕ → Bool → ClockInfo
clock_given clock resets restarts safe =
    record { clock = clock; reset_count = resets; restart_count = restarts; safe = safe }

other_safe : (x : List ℕ) (e : QuoteError) → AfterClock x e → HasOtherSafeByte x e
other_safe x e (inl never) = absurd never
other_safe x e (inr a) = elim a.broken [
  | inl never ↦ absurd never
  | inr b ↦ elim b.broken [
    | inl never ↦ absurd never
    | inr c ↦ record {
      clock = clock_given a.field b.field c.field true;
      is = record { clock = a.is; reset_count = b.is; restart_count = c.is };
      rest = c.rest;
      parts = a.parts ∙ ap (λ t. u64_bytes a.field ++ t) (b.parts ∙ ap (λ t. u32_bytes b.field ++ t) c.parts);
      safe = c.broken;
    }
  ]
]

from_other_safe : (x : List ℕ) (e : QuoteError) → HasOtherSafeByte x e → AfterClock x e
from_other_safe x e why = inr (record {
  field = why.clock.clock;
  is = why.is.clock;
  rest = u32_bytes why.clock.reset_count ++ (u32_bytes why.clock.restart_count ++ why.rest);
  parts = why.parts;
  broken = inr (record {
    field = why.clock.reset_count;
    is = why.is.reset_count;
    rest = u32_bytes why.clock.restart_count ++ why.rest;
    parts = refl;
    broken = inr (record {
      field = why.clock.restart_count;
      is = why.is.restart_count;
      rest = why.rest;
      parts = refl;
      broken = why.safe;
    });
  });
})

pub clock_reader : IsReader split_clock_info clock_bytes IsClockInfo HasOtherSafeByte
unfolding split_clock_info
clock_reader = fits_reader
    (then_reader {Known = λ c. Unit {0}} u64_reader (λ c. c.clock) (λ clock fits.
    then_reader u32_reader (λ c. c.reset_count) (λ resets fits.
    then_reader u32_reader (λ c. c.restart_count) (λ restarts fits.
    last_reader yes_no_reader (clock_given clock resets restarts) (λ c. c.safe)
    (λ safe is. ((((tt, refl), refl), refl), refl)) (λ c known. grind arith)))))
    (λ c fits. assumption fits) (λ c is. assumption is) (λ c is. refl) other_safe from_other_safe
