-- The bytes of selections.
use Rattle.std.proofs.Common.{◌≡◌, ◌≢◌, ℕ, zero, suc, ◌-◌, ◌<◌, ◌≤◌, ◌^◌, Bool, true, false, List, [], ◌∷◌, ◌++◌, length, get_or, nat_lt}
use Rattle.std.proofs.Common.{◌⊎◌, inl, inr, refl, sym, ◌∙◌, ap, subst, append_assoc, arith}
use Rattle.std.specs.List.{flat_map, AllByRecursion}
use Rattle.std.proofs.lemmas.Bool.{le-ltb, lt-ltb, ltb-false, ltb-true}
use Rattle.std.proofs.lemmas.List.{length-replicate}
use Rattle.tpm_quote.specs.BigEndian.{u16_bytes}
use Rattle.tpm_quote.specs.Fault.{IsCut, HasLongBitmap, HasPcrAbove23}
use Rattle.tpm_quote.specs.PcrSelection.{PcrSelection, IsPcrSelection, selection_bytes}
use Rattle.tpm_quote.specs.private.Reading.{split_size, split_bits, split_bitmap, split_selection, split_selections}
use Rattle.tpm_quote.specs.declared.quote_error.QuoteError.{QuoteError}
use Rattle.tpm_quote.specs.declared.quote_error.QuoteError.TheVariants.{Selection}
use Rattle.tpm_quote.proofs.Fields.{bytes_reader, filled, no_byte, one_byte, u16_reader, u8_reader, zeros, zeros_some}
use Rattle.tpm_quote.proofs.Selections.{ok, ok_is}
use Rattle.tpm_quote.proofs.Reader.{IsReader, not_ok, Never, Breaking, BreaksAfter, Takes, cut_shorter, fits_reader, guard_reader, last_reader, then_reader}

-- Bytes that make a cut bitmap whole select nothing.
byte_of_zeros : (n k : ℕ) → get_or (zeros n) k 0 ≡ 0
byte_of_zeros zero k = refl
byte_of_zeros (suc n) zero = refl
byte_of_zeros (suc n) (suc k) = byte_of_zeros n k

byte_after : (x : List ℕ) (n k : ℕ) → length x ≤ k → get_or (x ++ zeros n) k 0 ≡ 0
byte_after [] n k le = byte_of_zeros n k
byte_after (a ∷ x) n zero le = absurd (omega arith)
byte_after (a ∷ x) n (suc k) le = byte_after x n k (omega arith)

abbrev has_high_bits : List ℕ → Bool
has_high_bits bits = nat_lt 0 (get_or bits 3 0)

no_high_bits : (bits : List ℕ) → get_or bits 3 0 ≡ 0 → has_high_bits bits ≡ false
no_high_bits bits none = rw none refl

some_high_bits : (bits : List ℕ) → has_high_bits bits ≡ false → get_or bits 3 0 ≡ 0
some_high_bits bits none = let le = ltb-false 0 (get_or bits 3 0) none in omega (arith, le)

-- The bits of a bitmap of this size.
abbrev HasSize : ℕ → List ℕ → Type 0
HasSize size bits = length bits ≡ size

cut_bits : (size : ℕ) → size ≤ 4 → (x : List ℕ) → IsCut (HasSize size) (λ bits. bits) x
    → IsCut (λ bits. HasSize size bits × (has_high_bits bits ≡ false)) (λ bits. bits) x
cut_bits size few x short =
    let lt = cut_shorter x short.more short.value short.whole short.some in
    let fewer : length x < size = omega (arith, lt, short.is) in
    record {
      value = x ++ zeros (size - length x);
      is = (
        filled x size fewer,
        no_high_bits (x ++ zeros (size - length x))
            (byte_after x (size - length x) 3 (omega (arith, fewer, few))),
      );
      more = zeros (size - length x);
      some = zeros_some (size - length x) (omega (arith, fewer));
      whole = refl;
    }

abbrev Refused : {A : Type 0} → (A → Bool) → A → Breaking
Refused refuses a x e = (refuses a ≡ true) × (Selection ≡ e)

abbrev BreaksBits : ℕ → Breaking
BreaksBits size x e = Never x e ⊎ BreaksAfter (λ bits. bits) (HasSize size) (Refused has_high_bits) x e

abbrev IsLast : ℕ → List ℕ → Type 0
IsLast size bits = (Unit {0} × (length bits ≡ size)) × (has_high_bits bits ≡ false)

bits_reader : (size : ℕ) → size ≤ 4 → IsReader (split_bits size) (λ bits. bits) (IsLast size) (BreaksBits size)
unfolding split_bits
bits_reader size few = fits_reader
    (guard_reader (bytes_reader size) has_high_bits (λ bits. Selection) (cut_bits size few)
    (zeros size, length-replicate {A = ℕ} size 0, no_high_bits (zeros size) (byte_of_zeros size 3)))
    (λ bits is. ((tt, is.0), is.1)) (λ bits is. (is.0.1, is.1)) (λ bits is. refl)
    (λ x e why. why) (λ x e why. why)

-- Its size.
abbrev BreaksSize : Breaking
BreaksSize x e = Never x e ⊎ BreaksAfter one_byte (λ n. n < 256) (Refused (nat_lt 4)) x e

size_reader : IsReader split_size one_byte (λ n. (n < 256) × (nat_lt 4 n ≡ false)) BreaksSize
unfolding split_size
size_reader = guard_reader u8_reader (λ n. nat_lt 4 n) (λ n. Selection) (no_byte (λ n. nat_lt 4 n) refl) (0, omega arith, refl)

-- A bitmap: its size, and its bits.
abbrev IsBitmap : List ℕ → Type 0
IsBitmap bits = (length bits ≤ 4) × (get_or bits 3 0 ≡ 0)

abbrev bitmap_bytes : List ℕ → List ℕ
bitmap_bytes bits = length bits ∷ bits

-- The bytes begin with a size above 4, or with a bitmap whose fourth byte isn't zero.
pub record HasLongSize (x : List ℕ) : Type 0 where
  pub size : ℕ
  pub fits : size < 256
  pub long : 4 < size
  pub rest : List ℕ
  pub parts : x ≡ size ∷ rest

pub record HasHighBits (x : List ℕ) : Type 0 where
  pub bits : List ℕ
  pub short : length bits ≤ 4
  pub above : 0 < get_or bits 3 0
  pub rest : List ℕ
  pub parts : x ≡ bitmap_bytes bits ++ rest

abbrev pub BreaksBitmap : Breaking
BreaksBitmap x e = (Selection ≡ e) × (HasLongSize x ⊎ HasHighBits x)

abbrev SizeThenBits : Breaking
SizeThenBits x e = BreaksSize x e ⊎ BreaksAfter one_byte (λ n. (n < 256) × (nat_lt 4 n ≡ false)) BreaksBits x e

breaks_bitmap : (x : List ℕ) (e : QuoteError) → SizeThenBits x e → BreaksBitmap x e
breaks_bitmap x e (inl (inl never)) = absurd never
breaks_bitmap x e (inl (inr a)) = (
  a.broken.1,
  inl (record {
    size = a.field;
    fits = a.is;
    long = ltb-true 4 a.field a.broken.0;
    rest = a.rest;
    parts = a.parts;
  }),
)
breaks_bitmap x e (inr a) = elim a.broken [
  | inl never ↦ absurd never
  | inr b ↦ (
    b.broken.1,
    inr (record {
      bits = b.field;
      short = let le = ltb-false 4 a.field a.is.1 in omega (arith, le, b.is);
      above = ltb-true 0 (get_or b.field 3 0) b.broken.0;
      rest = b.rest;
      parts = a.parts ∙ ap (λ t. a.field ∷ t) b.parts ∙ ap (λ n. n ∷ (b.field ++ b.rest)) (sym b.is);
    }),
  )
]

from_breaks_bitmap : (x : List ℕ) (e : QuoteError) → BreaksBitmap x e → SizeThenBits x e
from_breaks_bitmap x e (same, inl long) = inl (inr (record {
  field = long.size;
  is = long.fits;
  rest = long.rest;
  parts = long.parts;
  broken = (lt-ltb 4 long.size long.long, same);
}))
from_breaks_bitmap x e (same, inr high) = inr (record {
  field = length high.bits;
  is = (omega (arith, high.short), le-ltb 4 (length high.bits) high.short);
  rest = high.bits ++ high.rest;
  parts = high.parts;
  broken = inr (record {
    field = high.bits;
    is = refl;
    rest = high.rest;
    parts = refl;
    broken = (lt-ltb 0 (get_or high.bits 3 0) high.above, same);
  });
})

bitmap_reader : IsReader split_bitmap bitmap_bytes IsBitmap BreaksBitmap
unfolding split_bitmap
bitmap_reader = fits_reader
    (then_reader {Known = λ bits. Unit {0}} {Others = λ bits. has_high_bits bits ≡ false} size_reader length (λ size is.
    bits_reader size (let le = ltb-false 4 size is.1 in omega (arith, le))))
    (λ bits is. (let le = ltb-false 4 (length bits) is.1.0.1 in omega (arith, le), some_high_bits bits is.1.1))
    (λ bits is. (tt, ((omega (arith, is.0), le-ltb 4 (length bits) is.0), no_high_bits bits is.1)))
    (λ bits is. refl) breaks_bitmap from_breaks_bitmap

-- A selection.
abbrev pub BreaksSelection : Breaking
BreaksSelection x e = (Selection ≡ e) × (HasLongBitmap x ⊎ HasPcrAbove23 x)

abbrev AfterAlgorithm : Breaking
AfterAlgorithm x e = Never x e ⊎ BreaksAfter u16_bytes (λ n. n < 2 ^ 16) (λ algorithm. BreaksBitmap) x e

abbrev selection_given : ℕ → List ℕ → PcrSelection
selection_given algorithm bitmap = record { algorithm = algorithm; bitmap = bitmap }

breaks_selection : (x : List ℕ) (e : QuoteError) → AfterAlgorithm x e → BreaksSelection x e
unfolding selection_bytes
breaks_selection x e (inl never) = absurd never
breaks_selection x e (inr a) = (
  a.broken.0,
  elim a.broken.1 [
    | inl long ↦ inl (record {
      algorithm = a.field;
      size = long.size;
      algorithm_fits = a.is;
      size_fits = long.fits;
      long = long.long;
      first = (
        long.rest,
        a.parts ∙ ap (λ t. u16_bytes a.field ++ t) long.parts
            ∙ sym (append_assoc (u16_bytes a.field) (long.size ∷ []) long.rest),
      );
    })
    | inr high ↦ inr (record {
      selection = selection_given a.field high.bits;
      algorithm = a.is;
      short = high.short;
      above = high.above;
      first = (
        high.rest,
        a.parts ∙ ap (λ t. u16_bytes a.field ++ t) high.parts
            ∙ sym (append_assoc (u16_bytes a.field) (bitmap_bytes high.bits) high.rest),
      );
    })
  ],
)

from_breaks_selection : (x : List ℕ) (e : QuoteError) → BreaksSelection x e → AfterAlgorithm x e
unfolding selection_bytes
from_breaks_selection x e (same, inl why) = inr (record {
  field = why.algorithm;
  is = why.algorithm_fits;
  rest = why.size ∷ why.first.0;
  parts = why.first.1 ∙ append_assoc (u16_bytes why.algorithm) (why.size ∷ []) why.first.0;
  broken = (
    same,
    inl (record {
      size = why.size;
      fits = why.size_fits;
      long = why.long;
      rest = why.first.0;
      parts = refl;
    }),
  );
})
from_breaks_selection x e (same, inr why) = inr (record {
  field = why.selection.algorithm;
  is = why.algorithm;
  rest = bitmap_bytes why.selection.bitmap ++ why.first.0;
  parts = why.first.1 ∙ append_assoc (u16_bytes why.selection.algorithm) (bitmap_bytes why.selection.bitmap) why.first.0;
  broken = (
    same,
    inr (record {
      bits = why.selection.bitmap;
      short = why.short;
      above = why.above;
      rest = why.first.0;
      parts = refl;
    }),
  );
})

pub selection_reader : IsReader split_selection selection_bytes IsPcrSelection BreaksSelection
unfolding split_selection selection_bytes
selection_reader = fits_reader
    (then_reader {Known = λ s. Unit {0}} u16_reader (λ s. s.algorithm) (λ algorithm fits.
    last_reader bitmap_reader (selection_given algorithm) (λ s. s.bitmap)
    (λ bits is. ((tt, refl), refl)) (λ s known. grind arith)))
    (λ s is. record { algorithm = is.1.0; short = is.1.1.0; of_pc = is.1.1.1 })
    (λ s is. (tt, (is.algorithm, (is.short, is.of_pc))))
    (λ s is. refl) breaks_selection from_breaks_selection

-- Selections, one after another.
abbrev pub selections_bytes : List PcrSelection → List ℕ
selections_bytes selections = flat_map selection_bytes selections

abbrev pub AreSelections : List PcrSelection → Type 0
AreSelections selections = AllByRecursion IsPcrSelection selections

-- The bytes begin with fewer selections, and what follows is none.
pub record BreaksSelections (count : ℕ) (x : List ℕ) (e : QuoteError) : Type 0 where
  pub before : List PcrSelection
  pub each : AreSelections before
  pub fewer : length before < count
  pub rest : List ℕ
  pub parts : x ≡ selections_bytes before ++ rest
  pub broken : BreaksSelection rest e

-- The first of selections, and those after it.
abbrev first_of : List PcrSelection → PcrSelection
first_of [] = selection_given 0 []
first_of (s ∷ ss) = s

abbrev rest_of : List PcrSelection → List PcrSelection
rest_of [] = []
rest_of (s ∷ ss) = ss

abbrev HasCount : ℕ → List PcrSelection → Type 0
HasCount n ss = length ss ≡ n

abbrev AreCounted : ℕ → List PcrSelection → Type 0
AreCounted n ss = HasCount n ss × AreSelections ss

abbrev AreFirstAndRest : ℕ → List PcrSelection → Type 0
AreFirstAndRest n ss = HasCount (suc n) ss × (IsPcrSelection (first_of ss) × AreCounted n (rest_of ss))

all_of : (n : ℕ) (ss : List PcrSelection) → AreFirstAndRest n ss → AreCounted (suc n) ss
all_of n [] is = absurd (omega (arith, is.0))
all_of n (s ∷ ss) is = (is.0, (is.1.0, is.1.1.1))

parts_of : (n : ℕ) (ss : List PcrSelection) → AreCounted (suc n) ss → AreFirstAndRest n ss
parts_of n [] is = absurd (omega (arith, is.0))
parts_of n (s ∷ ss) is = (is.0, (is.1.0, (omega (arith, is.0), is.1.1)))

same_bytes : (n : ℕ) (ss : List PcrSelection) → HasCount (suc n) ss
    → selection_bytes (first_of ss) ++ selections_bytes (rest_of ss) ≡ selections_bytes ss
same_bytes n [] is = absurd (omega (arith, is))
same_bytes n (s ∷ ss) is = refl

put_back : (n : ℕ) (s : PcrSelection) (ss : List PcrSelection) → HasCount (suc n) ss × (first_of ss ≡ s) → s ∷ rest_of ss ≡ ss
put_back n s [] known = absurd (omega (arith, known.0))
put_back n s (t ∷ ss) known = ap (λ first. first ∷ ss) (sym known.1)

abbrev FirstThenOthers : ℕ → Breaking
FirstThenOthers n x e = BreaksSelection x e ⊎ BreaksAfter selection_bytes IsPcrSelection (λ s. BreaksSelections n) x e

breaks_selections : (n : ℕ) (x : List ℕ) (e : QuoteError) → FirstThenOthers n x e → BreaksSelections (suc n) x e
breaks_selections n x e (inl first) = record {
  before = [];
  each = tt;
  fewer = omega arith;
  rest = x;
  parts = refl;
  broken = first;
}
breaks_selections n x e (inr a) = record {
  before = a.field ∷ a.broken.before;
  each = (a.is, a.broken.each);
  fewer = omega (arith, a.broken.fewer);
  rest = a.broken.rest;
  parts = a.parts ∙ ap (λ t. selection_bytes a.field ++ t) a.broken.parts
      ∙ sym (append_assoc (selection_bytes a.field) (selections_bytes a.broken.before) a.broken.rest);
  broken = a.broken.broken;
}

from_breaks_selections : (n : ℕ) (x : List ℕ) (e : QuoteError) → BreaksSelections (suc n) x e → FirstThenOthers n x e
from_breaks_selections n x e why = by_first why.before why.each why.fewer why.parts
  where
    by_first : (before : List PcrSelection) → AreSelections before → length before < suc n
        → x ≡ selections_bytes before ++ why.rest → FirstThenOthers n x e
    by_first [] each fewer parts = inl (subst (λ y. BreaksSelection y e) (sym parts) why.broken)
    by_first (s ∷ ss) each fewer parts = inr (record {
      field = s;
      is = each.0;
      rest = selections_bytes ss ++ why.rest;
      parts = parts ∙ append_assoc (selection_bytes s) (selections_bytes ss) why.rest;
      broken = record {
        before = ss;
        each = each.1;
        fewer = omega (arith, fewer);
        rest = why.rest;
        parts = refl;
        broken = why.broken;
      };
    })

none_again : (ss : List PcrSelection) (rest : List ℕ) → length ss ≡ 0
    → ok {A = List PcrSelection × List ℕ} ([], selections_bytes ss ++ rest) ≡ ok (ss, rest)
none_again [] rest is = refl
none_again (s ∷ ss) rest is = absurd (omega (arith, is))

none_cut : (x : List ℕ) (ss : List PcrSelection) (more : List ℕ) → more ≢ [] → length ss ≡ 0
    → x ++ more ≡ selections_bytes ss → ⊥
none_cut x [] more some is whole = absurd (omega (arith, cut_shorter x more [] whole some))
none_cut x (s ∷ ss) more some is whole = absurd (omega (arith, is))

pub selections_reader : (n : ℕ) → IsReader (split_selections n) selections_bytes (AreCounted n) (BreaksSelections n)
unfolding split_selections
selections_reader zero = record {
  takes = λ x ss rest fits e.
      subst (λ q. Takes x (selections_bytes q.0) q.1 × AreCounted 0 q.0) (ok_is ([], x) (ss, rest) e)
      (record { parts = refl; rest_fits = fits }, (refl, tt));
  again = λ ss rest is. none_again ss rest is.0;
  fails = λ x e fits failed. not_ok {A = List PcrSelection × List ℕ} e ([], x) failed;
  broken = λ x e why. absurd (omega (arith, why.fewer));
  cut = λ x short. absurd (none_cut x short.value short.more short.some short.is.0 short.whole);
  some = ([], (refl, tt));
}
selections_reader (suc n) = fits_reader
    (then_reader {Known = HasCount (suc n)} {Others = λ ss. AreCounted n (rest_of ss)} selection_reader first_of (λ s is.
    last_reader {Known = λ ss. HasCount (suc n) ss × (first_of ss ≡ s)} (selections_reader n) (λ more. s ∷ more) rest_of
    (λ more are. ((ap suc are.0, refl), refl)) (put_back n s)))
    (all_of n) (parts_of n) (λ ss is. same_bytes n ss is.0) (breaks_selections n) (from_breaks_selections n)
