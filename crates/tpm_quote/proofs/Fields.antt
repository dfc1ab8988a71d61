-- Numbers, and bytes of a length: what is read is what was written, and where it fails the bytes are cut.
use Rattle.std.proofs.Common.{◌≡◌, ◌≢◌, ℕ, zero, suc, ◌-◌, ◌<◌, ◌≤◌, ◌^◌, Bool, false, List, [], ◌∷◌, ◌++◌, length, take, drop}
use Rattle.std.proofs.Common.{◌⊎◌, inl, inr, refl, sym, ◌∙◌, ap, subst, take-append-drop, length-append, arith, replicate}
use Rattle.std.specs.Int.{Width, w8, w16, w32, w64, byte_len, from_be_bytes, to_be_bytes}
use Rattle.std.proofs.lemmas.Bool.{cases_lt, le-ltb, lt-ltb}
use Rattle.std.proofs.lemmas.List.{take_at, drop_at, length-take, length-replicate}
use Rattle.std.proofs.lemmas.Nat.{be_bytes_2, be_bytes_4, be_bytes_8, from_be_bytes-to_be_bytes_2, from_be_bytes-to_be_bytes_4, from_be_bytes-to_be_bytes_8}
use Rattle.uefi_base.specs.LittleEndian.{AreBytes}
use Rattle.uefi_tcg.proofs.ByteLists.{AreBytes-drop, AreBytes-take}
use Rattle.tpm_quote.specs.BigEndian.{sized_bytes}
use Rattle.tpm_quote.specs.Fault.{IsCut}
use Rattle.tpm_quote.specs.private.Reading.{split_number, split_bytes, split_sized}
use Rattle.tpm_quote.specs.declared.quote_error.QuoteError.{QuoteError}
use Rattle.tpm_quote.specs.declared.quote_error.QuoteError.TheVariants.{TooShort}
use Rattle.tpm_quote.proofs.Selections.{ok, err, ok_is}
use Rattle.tpm_quote.proofs.Reader.{Takes, Fails, IsReader, Never, BreaksAfter, cut_shorter, err_is, not_err, not_ok, then_reader, fits_reader}

-- Bytes that make cut ones whole.
pub AreBytes-append : (x y : List ℕ) → AreBytes x → AreBytes y → AreBytes (x ++ y)
AreBytes-append [] y fits also i = also i
AreBytes-append (a ∷ x) y fits also zero = fits 0
AreBytes-append (a ∷ x) y fits also (suc i) = AreBytes-append x y (λ j. fits (suc j)) also i

abbrev pub zeros : ℕ → List ℕ
zeros n = replicate n 0

pub AreBytes-zeros : (n : ℕ) → AreBytes (zeros n)
AreBytes-zeros zero i = omega arith
AreBytes-zeros (suc n) zero = omega arith
AreBytes-zeros (suc n) (suc i) = AreBytes-zeros n i

pub filled : (x : List ℕ) (n : ℕ) → length x < n → length (x ++ zeros (n - length x)) ≡ n
filled x n lt = omega (arith, length-append x (zeros (n - length x)), length-replicate {A = ℕ} (n - length x) 0)

pub zeros_some : (n : ℕ) → 0 < n → zeros n ≢ []
zeros_some n positive none = absurd (omega (arith, length-replicate {A = ℕ} n 0, ap length none))

-- Numbers of a width: those below the limit are read from bytes, and written as bytes.
pub record IsWide (w : Width) (write : ℕ → List ℕ) (limit : ℕ) : Type 0 where
  pub len : (n : ℕ) → length (write n) ≡ byte_len w
  pub back : (x : List ℕ) → length x ≡ byte_len w → AreBytes x → write (from_be_bytes w x) ≡ x
  pub again : (n : ℕ) → n < limit → from_be_bytes w (write n) ≡ n
  pub below : (x : List ℕ) → AreBytes x → from_be_bytes w x < limit
  pub positive : 0 < limit

abbrev pub one_byte : ℕ → List ℕ
one_byte n = n ∷ []

one_back : (x : List ℕ) → length x ≡ 1 → one_byte (from_be_bytes w8 x) ≡ x
one_back [] len = absurd (omega arith)
one_back (a ∷ []) len = let e : from_be_bytes w8 (a ∷ []) ≡ a = omega arith in ap one_byte e
one_back (a ∷ b ∷ x) len = absurd (omega arith)

pub wide8 : IsWide w8 one_byte 256
wide8 = record {
  len = λ n. refl;
  back = λ x len fits. one_back x len;
  again = λ n lt. omega arith;
  below = λ x fits. omega (arith, fits 0);
  positive = omega arith;
}

pub wide16 : IsWide w16 (to_be_bytes w16) (2 ^ 16)
wide16 = record {
  len = λ n. refl;
  back = λ x len fits. be_bytes_2 x _ len fits refl;
  again = from_be_bytes-to_be_bytes_2;
  below = λ x fits. omega (arith, fits 0, fits 1);
  positive = omega arith;
}

pub wide32 : IsWide w32 (to_be_bytes w32) (2 ^ 32)
wide32 = record {
  len = λ n. refl;
  back = λ x len fits. be_bytes_4 x _ len fits refl;
  again = from_be_bytes-to_be_bytes_4;
  below = λ x fits. omega (arith, fits 0, fits 1, fits 2, fits 3);
  positive = omega arith;
}

pub wide64 : IsWide w64 (to_be_bytes w64) (2 ^ 64)
wide64 = record {
  len = λ n. refl;
  back = λ x len fits. be_bytes_8 x _ len fits refl;
  again = from_be_bytes-to_be_bytes_8;
  below = λ x fits. omega (arith, fits 0, fits 1, fits 2, fits 3, fits 4, fits 5, fits 6, fits 7);
  positive = omega arith;
}

-- A number is read if its bytes are there.
pub number_short : (w : Width) (x : List ℕ) → length x < byte_len w → split_number w x ≡ err TooShort
number_short w x lt = rw (lt-ltb (length x) (byte_len w) lt) refl

pub number_long : (w : Width) (x : List ℕ) → byte_len w ≤ length x
    → split_number w x ≡ ok (from_be_bytes w (take (byte_len w) x), drop (byte_len w) x)
number_long w x le = rw (le-ltb (length x) (byte_len w) le) refl

module _ {w : Width} {write : ℕ → List ℕ} {limit : ℕ} (wide : IsWide w write limit) where
  abbrev Below : ℕ → Type 0
  Below n = n < limit

  number_takes : (x : List ℕ) (n : ℕ) (rest : List ℕ) → AreBytes x → split_number w x ≡ ok (n, rest)
      → Takes x (write n) rest × Below n
  number_takes x n rest fits e =
      let k : ℕ = byte_len w in
      elim (cases_lt (length x) k) [
        | inl lt ↦ not_err TooShort (n, rest) (sym (number_short w x lt) ∙ e)
        | inr ge ↦
            let front : write (from_be_bytes w (take k x)) ≡ take k x =
            wide.back (take k x) (omega (arith, length-take k x, ge)) (AreBytes-take k x fits) in
            let first : Takes x (write (from_be_bytes w (take k x))) (drop k x) = record {
              parts = rw front (sym (take-append-drop k x));
              rest_fits = AreBytes-drop k x fits;
            } in
            subst (λ q. Takes x (write q.0) q.1 × Below q.0)
            (ok_is (from_be_bytes w (take k x), drop k x) (n, rest) (sym (number_long w x ge) ∙ e))
            (first, wide.below (take k x) (AreBytes-take k x fits))
      ]

  number_again : (n : ℕ) (rest : List ℕ) → Below n → split_number w (write n ++ rest) ≡ ok (n, rest)
  number_again n rest lt =
      let len = wide.len n in
      let long : byte_len w ≤ length (write n ++ rest) = omega (arith, length-append (write n) rest, len) in
      number_long w (write n ++ rest) long
      ∙ rw (take_at (write n) rest (byte_len w) len, drop_at (write n) rest (byte_len w) len, wide.again n lt) refl

  number_cut : (x : List ℕ) → AreBytes x → length x < byte_len w → IsCut Below write x
  number_cut x fits lt =
      let more : List ℕ = zeros (byte_len w - length x) in
      let each : AreBytes (x ++ more) = AreBytes-append x more fits (AreBytes-zeros (byte_len w - length x)) in
      record {
        value = from_be_bytes w (x ++ more);
        is = wide.below (x ++ more) each;
        more = more;
        some = zeros_some (byte_len w - length x) (omega (arith, lt));
        whole = sym (wide.back (x ++ more) (filled x (byte_len w) lt) each);
      }

  number_fails : (x : List ℕ) (e : QuoteError) → AreBytes x → split_number w x ≡ err e → Fails Below write Never x e
  number_fails x e fits failed = elim (cases_lt (length x) (byte_len w)) [
    | inl lt ↦ inl
        (sym (err_is {A = ℕ × List ℕ} TooShort e (sym (number_short w x lt) ∙ failed)), number_cut x fits lt)
    | inr ge ↦ not_ok e (from_be_bytes w (take (byte_len w) x), drop (byte_len w) x) (sym (number_long w x ge) ∙ failed)
  ]

  pub number_reader : IsReader (split_number w) write Below Never
  number_reader = record {
    takes = number_takes;
    again = number_again;
    fails = number_fails;
    broken = λ x e never. absurd never;
    cut = λ x short. number_short w x
        (let lt = cut_shorter x short.more (write short.value) short.whole short.some in omega (arith, lt, wide.len short.value));
    some = (0, wide.positive);
  }

pub u8_reader : IsReader (split_number w8) one_byte (λ n. n < 256) Never
u8_reader = number_reader wide8

pub u16_reader : IsReader (split_number w16) (to_be_bytes w16) (λ n. n < 2 ^ 16) Never
u16_reader = number_reader wide16

pub u32_reader : IsReader (split_number w32) (to_be_bytes w32) (λ n. n < 2 ^ 32) Never
u32_reader = number_reader wide32

pub u64_reader : IsReader (split_number w64) (to_be_bytes w64) (λ n. n < 2 ^ 64) Never
u64_reader = number_reader wide64

-- A cut byte is none, and 0 would be one.
pub no_byte : (test : ℕ → Bool) → test 0 ≡ false → (x : List ℕ) → IsCut (λ n. n < 256) one_byte x
    → IsCut (λ n. (n < 256) × (test n ≡ false)) one_byte x
no_byte test passes [] short = record {
  value = 0;
  is = (omega arith, passes);
  more = 0 ∷ [];
  some = λ none. absurd cc;
  whole = refl;
}
no_byte test passes (a ∷ x) short =
    absurd (omega (arith, cut_shorter (a ∷ x) short.more (one_byte short.value) short.whole short.some))

-- Bytes are read if they are there.
pub bytes_short : (n : ℕ) (x : List ℕ) → length x < n → split_bytes n x ≡ err TooShort
bytes_short n x lt = rw (lt-ltb (length x) n lt) refl

pub bytes_long : (n : ℕ) (x : List ℕ) → n ≤ length x → split_bytes n x ≡ ok (take n x, drop n x)
bytes_long n x le = rw (le-ltb (length x) n le) refl

module _ (n : ℕ) where
  abbrev HasLength : List ℕ → Type 0
  HasLength part = length part ≡ n

  bytes_take : (x part rest : List ℕ) → AreBytes x → split_bytes n x ≡ ok (part, rest) → Takes x part rest × HasLength part
  bytes_take x part rest fits e = elim (cases_lt (length x) n) [
    | inl lt ↦ not_err TooShort (part, rest) (sym (bytes_short n x lt) ∙ e)
    | inr ge ↦
        let first : Takes x (take n x) (drop n x) = record {
          parts = sym (take-append-drop n x);
          rest_fits = AreBytes-drop n x fits;
        } in
        subst (λ q. Takes x q.0 q.1 × HasLength q.0)
        (ok_is (take n x, drop n x) (part, rest) (sym (bytes_long n x ge) ∙ e))
        (first, omega (arith, length-take n x, ge))
  ]

  bytes_again : (part rest : List ℕ) → HasLength part → split_bytes n (part ++ rest) ≡ ok (part, rest)
  bytes_again part rest len =
      bytes_long n (part ++ rest) (omega (arith, length-append part rest, len))
      ∙ rw (take_at part rest n len, drop_at part rest n len) refl

  pub bytes_cut : (x : List ℕ) → length x < n → IsCut HasLength (λ part. part) x
  bytes_cut x lt = record {
    value = x ++ zeros (n - length x);
    is = filled x n lt;
    more = zeros (n - length x);
    some = zeros_some (n - length x) (omega (arith, lt));
    whole = refl;
  }

  bytes_fail : (x : List ℕ) (e : QuoteError) → AreBytes x → split_bytes n x ≡ err e → Fails HasLength (λ part. part) Never x e
  bytes_fail x e fits failed = elim (cases_lt (length x) n) [
    | inl lt ↦ inl (sym (err_is {A = List ℕ × List ℕ} TooShort e (sym (bytes_short n x lt) ∙ failed)), bytes_cut x lt)
    | inr ge ↦ not_ok e (take n x, drop n x) (sym (bytes_long n x ge) ∙ failed)
  ]

  pub bytes_reader : IsReader (split_bytes n) (λ part. part) (λ part. length part ≡ n) Never
  bytes_reader = record {
    takes = bytes_take;
    again = bytes_again;
    fails = bytes_fail;
    broken = λ x e never. absurd never;
    cut = λ x short. bytes_short n x
        (let lt = cut_shorter x short.more short.value short.whole short.some in omega (arith, lt, short.is));
    some = (zeros n, length-replicate {A = ℕ} n 0);
  }

-- Bytes with their size before them.
never_after : {A : Type 0} {write : A → List ℕ} {Is : A → Type 0} (x : List ℕ) (e : QuoteError)
    → Never x e ⊎ BreaksAfter write Is (λ a. Never) x e → Never x e
never_after x e (inl never) = never
never_after x e (inr after) = after.broken

pub sized_reader : IsReader split_sized sized_bytes (λ part. length part < 2 ^ 16) Never
unfolding split_sized sized_bytes
sized_reader = fits_reader
    (then_reader {Known = λ part. Unit {0}} {Others = λ part. Unit {0}} u16_reader length (λ size fits.
    fits_reader {Are = λ part. (Unit {0} × (length part ≡ size)) × Unit {0}} (bytes_reader size) (λ part is. ((tt, is), tt)) (λ part is. is.0.1) (λ part is. refl)
    (λ x e never. never) (λ x e never. never)))
    (λ part is. is.1.0) (λ part fits. (tt, (fits, tt))) (λ part is. refl) never_after (λ x e never. absurd never)
