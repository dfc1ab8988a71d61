-- The magic and the type: they are read if they are those of a quote, and else are the fault.
use Rattle.std.proofs.Common.{◌≡◌, ◌≢◌, ℕ, ◌<◌, ◌^◌, Bool, true, false, cond, List, ◌++◌, length, nat_eq}
use Rattle.std.proofs.Common.{inl, inr, refl, sym, ◌∙◌, ap, subst, append_assoc, arith}
use Rattle.std.specs.Int.{w16, w32}
use Rattle.std.proofs.lemmas.Bool.{eqb-false, eqb-true}
use Rattle.std.proofs.lemmas.Bool.Decides.{eqb_tells}
use Rattle.uefi_base.specs.LittleEndian.{AreBytes}
use Rattle.tpm_quote.specs.BigEndian.{u16_bytes, u32_bytes}
use Rattle.tpm_quote.specs.Fault.{HasFault}
use Rattle.tpm_quote.specs.Quote.{attest_quote, generated_value}
use Rattle.tpm_quote.specs.private.Reading.{◌>>=◌, after_header, after_magic, after_type, split_number}
use Rattle.tpm_quote.specs.declared.quote_error.QuoteError.{QuoteError}
use Rattle.tpm_quote.specs.declared.quote_error.QuoteError.TheVariants.{NotGenerated, NotQuote, TooShort}
use Rattle.tpm_quote.proofs.Fields.{number_short, u16_reader, u32_reader}
use Rattle.tpm_quote.proofs.QuoteLayout.{header_then}
use Rattle.tpm_quote.proofs.Reader.{Fails, Never, bind_cases, cut_shorter, err_is, not_err, not_ok}
use Rattle.tpm_quote.proofs.Selections.{ok, err, ok_is}

-- The header of a quote is read.
pub header_read : (x : List ℕ) → after_header (header_then x) ≡ ok x
unfolding after_header after_magic after_type
header_read x =
    rw (
      u32_reader.again generated_value (u16_bytes attest_quote ++ x) (omega arith),
      u16_reader.again attest_quote x (omega arith),
    ) refl

-- Another number isn't the one.
differs : (m n : ℕ) → m ≢ n → nat_eq m n ≡ false
differs m n other = elim (eqb_tells m n) [
  | inl same ↦ absurd (other same.1)
  | inr is ↦ is.0
]

pub other_magic : (m : ℕ) (rest : List ℕ) → m < 2 ^ 32 → m ≢ generated_value
    → after_header (u32_bytes m ++ rest) ≡ err NotGenerated
unfolding after_header after_magic
other_magic m rest fits other = rw (u32_reader.again m rest fits, differs m generated_value other) refl

pub other_type : (kind : ℕ) (rest : List ℕ) → kind < 2 ^ 16 → kind ≢ attest_quote
    → after_header (u32_bytes generated_value ++ (u16_bytes kind ++ rest)) ≡ err (NotQuote kind)
unfolding after_header after_magic after_type
other_type kind rest fits other =
    rw (
      u32_reader.again generated_value (u16_bytes kind ++ rest) (omega arith),
      u16_reader.again kind rest fits,
      differs kind attest_quote other,
    ) refl

pub cut_in_magic : (x : List ℕ) → length x < 4 → after_header x ≡ err TooShort
unfolding after_header
cut_in_magic x lt = rw (number_short w32 x lt) refl

pub cut_in_type : (x : List ℕ) → length x < 2 → after_header (u32_bytes generated_value ++ x) ≡ err TooShort
unfolding after_header after_magic
cut_in_type x lt = rw (u32_reader.again generated_value x (omega arith), number_short w16 x lt) refl

-- What was read is the header, and bytes follow it.
pub record BeginsWithHeader (bytes x : List ℕ) : Type 0 where
  pub parts : bytes ≡ header_then x
  pub fits : AreBytes x

-- The bytes after the type, if it is that of a quote.
type_found : (kind : ℕ) (rest x : List ℕ) (t : Bool) → nat_eq kind attest_quote ≡ t
    → cond t (ok rest) (err (NotQuote kind)) ≡ ok x → (kind ≡ attest_quote) × (rest ≡ x)
type_found kind rest x true is e = (eqb-true kind attest_quote is, ok_is rest x e)
type_found kind rest x false is e = not_err (NotQuote kind) x e

type_other : (kind : ℕ) (rest : List ℕ) (e : QuoteError) (t : Bool) → nat_eq kind attest_quote ≡ t
    → cond t (ok rest) (err (NotQuote kind)) ≡ err e → (kind ≢ attest_quote) × (NotQuote kind ≡ e)
type_other kind rest e true is failed = not_ok e rest failed
type_other kind rest e false is failed = (eqb-false kind attest_quote is, err_is {A = List ℕ} (NotQuote kind) e failed)

magic_found : (bytes rest x : List ℕ) (magic : ℕ) (t : Bool) → bytes ≡ u32_bytes magic ++ rest → AreBytes rest
    → nat_eq magic generated_value ≡ t → cond t (split_number w16 rest >>= after_type) (err NotGenerated) ≡ ok x
    → BeginsWithHeader bytes x
unfolding after_type
magic_found bytes rest x magic false parts fits is e = not_err NotGenerated x e
magic_found bytes rest x magic true parts fits is e = bind_cases (split_number w16 rest) after_type (ok x) _ e
    (λ p first then.
    let (taken, kind_fits) = u16_reader.takes rest p.0 p.1 fits first in
    let (same, left) = type_found p.0 p.1 x (nat_eq p.0 attest_quote) refl then in
    record {
      parts = parts ∙ ap (λ m. u32_bytes m ++ rest) (eqb-true magic generated_value is)
          ∙ ap (λ t. u32_bytes generated_value ++ t) (taken.parts ∙ (λ i. u16_bytes (same i) ++ left i));
      fits = subst AreBytes left taken.rest_fits;
    })
    (λ d first no. not_err d x no)

pub header_found : (bytes x : List ℕ) → AreBytes bytes → after_header bytes ≡ ok x → BeginsWithHeader bytes x
unfolding after_header after_magic
header_found bytes x fits e = bind_cases (split_number w32 bytes) after_magic (ok x) _ e
    (λ p first then.
    let (taken, magic_fits) = u32_reader.takes bytes p.0 p.1 fits first in
    magic_found bytes p.1 x p.0 (nat_eq p.0 generated_value) taken.parts taken.rest_fits refl then)
    (λ d first no. not_err d x no)

-- Where it isn't read, it is the fault.
cut_length : {limit : ℕ} {write : ℕ → List ℕ} (k : ℕ) (x : List ℕ) (e : QuoteError) → ((n : ℕ) → length (write n) ≡ k)
    → Fails (λ n. n < limit) write Never x e → (e ≡ TooShort) × (length x < k)
cut_length {limit} {write} k x e len (inl (same, short)) =
    (same, let lt = cut_shorter x short.more (write short.value) short.whole short.some in omega (arith, lt, len short.value))
cut_length {limit} {write} k x e len (inr never) = absurd never

type_fault : (bytes rest : List ℕ) (e : QuoteError) → bytes ≡ u32_bytes generated_value ++ rest → AreBytes rest
    → (split_number w16 rest >>= after_type) ≡ err e → HasFault bytes e
unfolding after_type
type_fault bytes rest e parts fits failed = bind_cases (split_number w16 rest) after_type (err e) _ failed
    (λ p first then.
    let (taken, kind_fits) = u16_reader.takes rest p.0 p.1 fits first in
    let (other, same) = type_other p.0 p.1 e (nat_eq p.0 attest_quote) refl then in
    subst (HasFault bytes) same (record {
      fits = kind_fits;
      other = other;
      first = (
        p.1,
        parts ∙ ap (λ t. u32_bytes generated_value ++ t) taken.parts
            ∙ sym (append_assoc (u32_bytes generated_value) (u16_bytes p.0) p.1),
      );
    }))
    (λ d first same.
    let is : d ≡ e = err_is {A = List ℕ} d e same in
    let (short, lt) = cut_length 2 rest e (λ n. refl) (u16_reader.fails rest e fits (first ∙ ap err is)) in
    subst (HasFault bytes) (sym short) (inr (inl ((rest, parts), omega (arith, ap length parts, lt)))))

magic_fault : (bytes rest : List ℕ) (e : QuoteError) (magic : ℕ) (t : Bool) → bytes ≡ u32_bytes magic ++ rest
    → magic < 2 ^ 32 → AreBytes rest → nat_eq magic generated_value ≡ t
    → cond t (split_number w16 rest >>= after_type) (err NotGenerated) ≡ err e → HasFault bytes e
magic_fault bytes rest e magic true parts magic_fits fits is failed =
    type_fault bytes rest e (parts ∙ ap (λ m. u32_bytes m ++ rest) (eqb-true magic generated_value is)) fits failed
magic_fault bytes rest e magic false parts magic_fits fits is failed =
    subst (HasFault bytes) (err_is {A = List ℕ} NotGenerated e failed) (record {
      magic = magic;
      fits = magic_fits;
      other = eqb-false magic generated_value is;
      first = (rest, parts);
    })

pub header_fault : (bytes : List ℕ) (e : QuoteError) → AreBytes bytes → after_header bytes ≡ err e → HasFault bytes e
unfolding after_header after_magic
header_fault bytes e fits failed = bind_cases (split_number w32 bytes) after_magic (err e) _ failed
    (λ p first then.
    let (taken, magic_fits) = u32_reader.takes bytes p.0 p.1 fits first in
    magic_fault bytes p.1 e p.0 (nat_eq p.0 generated_value) taken.parts magic_fits taken.rest_fits refl then)
    (λ d first same.
    let is : d ≡ e = err_is {A = List ℕ} d e same in
    let (short, lt) = cut_length 4 bytes e (λ n. refl) (u32_reader.fails bytes e fits (first ∙ ap err is)) in
    subst (HasFault bytes) (sym short) (inl lt))
