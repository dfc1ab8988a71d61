-- The bytes of a quote after its magic and its type.
use Rattle.std.proofs.Common.{◌≡◌, ℕ, ◌<◌, ◌^◌, List, ◌++◌, length}
use Rattle.std.proofs.Common.{◌⊎◌, inl, inr, refl, ◌∙◌, ap, arith}
use Rattle.tpm_quote.specs.BigEndian.{sized_bytes, u32_bytes, u64_bytes}
use Rattle.tpm_quote.specs.PcrSelection.{PcrSelection}
use Rattle.tpm_quote.specs.Quote.{ClockInfo, IsClockInfo, Quote, IsQuote}
use Rattle.tpm_quote.specs.private.Reading.{split_body, split_counted, quote_given}
use Rattle.tpm_quote.specs.declared.quote_error.QuoteError.{QuoteError}
use Rattle.tpm_quote.proofs.ClockBytes.{HasOtherSafeByte, clock_bytes, clock_reader}
use Rattle.tpm_quote.proofs.Fields.{sized_reader, u32_reader, u64_reader}
use Rattle.tpm_quote.proofs.Reader.{IsReader, Never, Breaking, BreaksAfter, fits_reader, last_reader, then_reader}
use Rattle.tpm_quote.proofs.SelectionBytes.{AreSelections, BreaksSelections, selections_bytes, selections_reader}

-- Selections with their number before them.
abbrev pub counted_bytes : List PcrSelection → List ℕ
counted_bytes selections = u32_bytes (length selections) ++ selections_bytes selections

abbrev pub AreCounted : List PcrSelection → Type 0
AreCounted selections = (length selections < 2 ^ 32) × AreSelections selections

abbrev BreaksAfterCount : Breaking
BreaksAfterCount x e = BreaksAfter u32_bytes (λ n. n < 2 ^ 32) BreaksSelections x e

after_count : (x : List ℕ) (e : QuoteError) → Never x e ⊎ BreaksAfterCount x e → BreaksAfterCount x e
after_count x e (inl never) = absurd never
after_count x e (inr after) = after

counted_reader : IsReader split_counted counted_bytes AreCounted BreaksAfterCount
unfolding split_counted
counted_reader = fits_reader
    (then_reader {Known = λ ss. Unit {0}} {Others = AreSelections} u32_reader length (λ count fits.
    fits_reader {Are = λ ss. (Unit {0} × (length ss ≡ count)) × AreSelections ss} (selections_reader count)
    (λ ss is. ((tt, is.0), is.1)) (λ ss is. (is.0.1, is.1)) (λ ss is. refl) (λ x e why. why) (λ x e why. why)))
    (λ ss is. is.1) (λ ss is. (tt, is)) (λ ss is. refl) after_count (λ x e why. inr why)

-- The fields after the magic and the type.
abbrev pub body_bytes : Quote → List ℕ
body_bytes q = sized_bytes q.qualified_signer ++ (sized_bytes q.extra_data ++ (clock_bytes q.clock_info
    ++ (u64_bytes q.firmware_version ++ (counted_bytes q.pcr_selections ++ sized_bytes q.pcr_digest))))

abbrev IsSized : List ℕ → Type 0
IsSized part = length part < 2 ^ 16

abbrev AfterSelections : Breaking
AfterSelections x e = BreaksAfterCount x e ⊎ BreaksAfter counted_bytes AreCounted (λ selections. Never) x e

abbrev AfterVersion : Breaking
AfterVersion x e = Never x e ⊎ BreaksAfter u64_bytes (λ n. n < 2 ^ 64) (λ version. AfterSelections) x e

abbrev AfterClock : Breaking
AfterClock x e = HasOtherSafeByte x e ⊎ BreaksAfter clock_bytes IsClockInfo (λ clock. AfterVersion) x e

abbrev AfterExtra : Breaking
AfterExtra x e = Never x e ⊎ BreaksAfter sized_bytes IsSized (λ extra. AfterClock) x e

abbrev AfterSigner : Breaking
AfterSigner x e = Never x e ⊎ BreaksAfter sized_bytes IsSized (λ signer. AfterExtra) x e

-- They begin as a quote does, and then have another `safe`, or a selection that is none.
pub record BreaksInClock (x : List ℕ) (e : QuoteError) : Type 0 where
  pub signer : List ℕ
  pub extra : List ℕ
  pub signer_fits : length signer < 2 ^ 16
  pub extra_fits : length extra < 2 ^ 16
  pub rest : List ℕ
  pub parts : x ≡ sized_bytes signer ++ (sized_bytes extra ++ rest)
  pub broken : HasOtherSafeByte rest e

pub record BreaksInSelections (x : List ℕ) (e : QuoteError) : Type 0 where
  pub signer : List ℕ
  pub extra : List ℕ
  pub clock : ClockInfo
  pub version : ℕ
  pub count : ℕ
  pub signer_fits : length signer < 2 ^ 16
  pub extra_fits : length extra < 2 ^ 16
  pub clock_fits : IsClockInfo clock
  pub version_fits : version < 2 ^ 64
  pub count_fits : count < 2 ^ 32
  pub rest : List ℕ
  pub parts : x ≡ sized_bytes signer ++ (sized_bytes extra ++ (clock_bytes clock ++ (u64_bytes version
      ++ (u32_bytes count ++ rest))))
  pub broken : BreaksSelections count rest e

abbrev pub BreaksBody : Breaking
BreaksBody x e = BreaksInClock x e ⊎ BreaksInSelections x e

breaks_body : (x : List ℕ) (e : QuoteError) → AfterSigner x e → BreaksBody x e
breaks_body x e (inl never) = absurd never
breaks_body x e (inr a) = elim a.broken [
  | inl never ↦ absurd never
  | inr b ↦ elim b.broken [
    | inl why ↦ inl (record {
      signer = a.field;
      extra = b.field;
      signer_fits = a.is;
      extra_fits = b.is;
      rest = b.rest;
      parts = a.parts ∙ ap (λ t. sized_bytes a.field ++ t) b.parts;
      broken = why;
    })
    | inr c ↦ elim c.broken [
      | inl never ↦ absurd never
      | inr d ↦ elim d.broken [
        | inl f ↦ inr (record {
          signer = a.field;
          extra = b.field;
          clock = c.field;
          version = d.field;
          count = f.field;
          signer_fits = a.is;
          extra_fits = b.is;
          clock_fits = c.is;
          version_fits = d.is;
          count_fits = f.is;
          rest = f.rest;
          parts = a.parts ∙ ap (λ t. sized_bytes a.field ++ t) (b.parts ∙ ap (λ t. sized_bytes b.field ++ t)
              (c.parts ∙ ap (λ t. clock_bytes c.field ++ t) (d.parts ∙ ap (λ t. u64_bytes d.field ++ t) f.parts)));
          broken = f.broken;
        })
        | inr f ↦ absurd f.broken
      ]
    ]
  ]
]

from_breaks_body : (x : List ℕ) (e : QuoteError) → BreaksBody x e → AfterSigner x e
from_breaks_body x e (inl why) = inr (record {
  field = why.signer;
  is = why.signer_fits;
  rest = sized_bytes why.extra ++ why.rest;
  parts = why.parts;
  broken = inr (record {
    field = why.extra;
    is = why.extra_fits;
    rest = why.rest;
    parts = refl;
    broken = inl why.broken;
  });
})
from_breaks_body x e (inr why) = inr (record {
  field = why.signer;
  is = why.signer_fits;
  rest = sized_bytes why.extra ++ (clock_bytes why.clock ++ (u64_bytes why.version ++ (u32_bytes why.count ++ why.rest)));
  parts = why.parts;
  broken = inr (record {
    field = why.extra;
    is = why.extra_fits;
    rest = clock_bytes why.clock ++ (u64_bytes why.version ++ (u32_bytes why.count ++ why.rest));
    parts = refl;
    broken = inr (record {
      field = why.clock;
      is = why.clock_fits;
      rest = u64_bytes why.version ++ (u32_bytes why.count ++ why.rest);
      parts = refl;
      broken = inr (record {
        field = why.version;
        is = why.version_fits;
        rest = u32_bytes why.count ++ why.rest;
        parts = refl;
        broken = inl (record {
          field = why.count;
          is = why.count_fits;
          rest = why.rest;
          parts = refl;
          broken = why.broken;
        });
      });
    });
  });
})

-- The fields one by one.
abbrev AreFields : Quote → Type 0
AreFields q = Unit {0} × (IsSized q.qualified_signer × (IsSized q.extra_data × (IsClockInfo q.clock_info
    × ((q.firmware_version < 2 ^ 64) × (AreCounted q.pcr_selections × IsSized q.pcr_digest)))))

pub body_reader : IsReader split_body body_bytes IsQuote BreaksBody
unfolding split_body
body_reader = fits_reader
    (then_reader {Known = λ q. Unit {0}} sized_reader (λ q. q.qualified_signer) (λ signer fits.
    then_reader sized_reader (λ q. q.extra_data) (λ extra fits.
    then_reader clock_reader (λ q. q.clock_info) (λ clock fits.
    then_reader u64_reader (λ q. q.firmware_version) (λ version fits.
    then_reader counted_reader (λ q. q.pcr_selections) (λ selections fits.
    last_reader sized_reader (quote_given signer extra clock version selections) (λ q. q.pcr_digest)
    (λ digest is. ((((((tt, refl), refl), refl), refl), refl), refl)) (λ q known. grind arith)))))))
    (λ q is. record {
      qualified_signer = is.1.0;
      extra_data = is.1.1.0;
      clock_info = is.1.1.1.0;
      firmware_version = is.1.1.1.1.0;
      pcr_selections = is.1.1.1.1.1.0.1;
      count = is.1.1.1.1.1.0.0;
      pcr_digest = is.1.1.1.1.1.1;
    })
    (λ q is. (
      tt,
      (
        is.qualified_signer,
        (
          is.extra_data,
          (
            is.clock_info,
            (
              is.firmware_version,
              ((is.count, is.pcr_selections), is.pcr_digest),
            ),
          ),
        ),
      ),
    ))
    (λ q is. refl) breaks_body from_breaks_body
