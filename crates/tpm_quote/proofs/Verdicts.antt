-- What is read is the verdict on the bytes, and each verdict is what is read.
use Rattle.std.proofs.Common.{◌≡◌, ◌≢◌, ℕ, Bool, true, false, cond, List, [], ◌∷◌, ◌++◌, length, nat_eq}
use Rattle.std.proofs.Common.{inl, inr, refl, sym, ◌∙◌, ap, subst, append_assoc, arith}
use Rattle.std.specs.Prelude.{Result, Ok, Err}
use Rattle.std.specs.Result.{result_map_both}
use Rattle.std.proofs.Math.Dec.{eqb-suc-zero}
use Rattle.std.proofs.lemmas.Bool.{cases_lt, eqb-false, eqb-true}
use Rattle.std.proofs.lemmas.List.{append-nil, nil_from_length}
use Rattle.uefi_base.specs.LittleEndian.{AreBytes}
use Rattle.tpm_quote.specs.BigEndian.{sized_bytes, u16_bytes, u32_bytes, u64_bytes}
use Rattle.tpm_quote.specs.Fault.{AreTooShort, HasFault, HasOtherSafe, HasOtherSelection}
use Rattle.tpm_quote.specs.Laws.{OneQuote, OneVerdict}
use Rattle.tpm_quote.specs.Quote.{Quote, IsQuote, attest_quote, before_safe, generated_value, quote_bytes}
use Rattle.tpm_quote.specs.Reading.{IsVerdict, ReadsQuote}
use Rattle.tpm_quote.specs.private.Reading.{◌>>=◌, after_header, alone, quote_given, read_quote, split_body}
use Rattle.tpm_quote.specs.declared.quote_error.QuoteError.{QuoteError}
use Rattle.tpm_quote.specs.declared.quote_error.QuoteError.TheVariants.{NotGenerated, NotQuote, Safe, Selection, TooShort, LeftOver}
use Rattle.tpm_quote.proofs.ClockBytes.{before_safe_byte, clock_bytes}
use Rattle.tpm_quote.proofs.Header.{cut_in_magic, cut_in_type, header_fault, header_found, header_read, other_magic, other_type}
use Rattle.tpm_quote.proofs.QuoteBytes.{BreaksInClock, BreaksInSelections, body_bytes, body_reader}
use Rattle.tpm_quote.proofs.QuoteLayout.{before_safe_then, before_selections_then, header_append, header_then, quote_is}
use Rattle.tpm_quote.proofs.Reader.{bind_cases, split_at_length}
use Rattle.tpm_quote.proofs.SelectionBytes.{selections_bytes}
use Rattle.tpm_quote.proofs.Selections.{ok, err, ok_is}

-- Reading bytes that begin with the header of a quote is reading what follows it.
read_body : (bytes x : List ℕ) → bytes ≡ header_then x → read_quote bytes ≡ (split_body x >>= alone)
unfolding read_quote
read_body bytes x parts = rw (parts, header_read x) refl

not_read : (bytes : List ℕ) (e : QuoteError) → after_header bytes ≡ err e → read_quote bytes ≡ err e
unfolding read_quote
not_read bytes e failed = rw failed refl

-- Each quote is read.
whole_read : (q : Quote) (rest : List ℕ) → IsQuote q → read_quote (quote_bytes q ++ rest) ≡ alone (q, rest)
whole_read q rest is =
    read_body (quote_bytes q ++ rest) (body_bytes q ++ rest) (ap (λ t. t ++ rest) (quote_is q) ∙ header_append (body_bytes q) rest)
    ∙ rw (body_reader.again q rest is) refl

quote_read : (bytes : List ℕ) (q : Quote) → IsQuote q → bytes ≡ quote_bytes q → read_quote bytes ≡ ok q
unfolding alone
quote_read bytes q is same =
    ap read_quote (same ∙ sym (append-nil (quote_bytes q))) ∙ whole_read q [] is

-- Each fault is found.
broken_read : (bytes x : List ℕ) (e : QuoteError) → bytes ≡ header_then x → split_body x ≡ err e → read_quote bytes ≡ err e
broken_read bytes x e parts failed = read_body bytes x parts ∙ rw failed refl

safe_read : (bytes : List ℕ) (value : ℕ) → HasOtherSafe value bytes → read_quote bytes ≡ err (Safe value)
safe_read bytes value why =
    let q = why.quote in
    let rest : List ℕ = value ∷ why.first.0 in
    let clock : List ℕ = before_safe_byte q.clock_info rest in
    let x : List ℕ = sized_bytes q.qualified_signer ++ (sized_bytes q.extra_data ++ clock) in
    broken_read bytes x (Safe value)
    (why.first.1 ∙ append_assoc (before_safe q) (value ∷ []) why.first.0 ∙ before_safe_then q rest)
    (body_reader.broken x (Safe value) (inl (record {
      signer = q.qualified_signer;
      extra = q.extra_data;
      signer_fits = why.is_quote.qualified_signer;
      extra_fits = why.is_quote.extra_data;
      rest = clock;
      parts = refl;
      broken = record {
        clock = q.clock_info;
        is = why.is_quote.clock_info;
        rest = rest;
        parts = refl;
        safe = record {
          value = value;
          fits = why.fits;
          other = why.other;
          error = refl;
          rest = why.first.0;
          parts = refl;
        };
      };
    })))

selection_read : (bytes : List ℕ) → HasOtherSelection bytes → read_quote bytes ≡ err Selection
selection_read bytes why =
    let q = why.quote in
    let rest : List ℕ = selections_bytes q.pcr_selections ++ why.rest in
    let x : List ℕ = sized_bytes q.qualified_signer ++ (sized_bytes q.extra_data ++ (clock_bytes q.clock_info
    ++ (u64_bytes q.firmware_version ++ (u32_bytes why.count ++ rest)))) in
    broken_read bytes x Selection (why.first ∙ before_selections_then q (u32_bytes why.count ++ rest))
    (body_reader.broken x Selection (inr (record {
      signer = q.qualified_signer;
      extra = q.extra_data;
      clock = q.clock_info;
      version = q.firmware_version;
      count = why.count;
      signer_fits = why.is_quote.qualified_signer;
      extra_fits = why.is_quote.extra_data;
      clock_fits = why.is_quote.clock_info;
      version_fits = why.is_quote.firmware_version;
      count_fits = why.fits;
      rest = rest;
      parts = refl;
      broken = record {
        before = q.pcr_selections;
        each = why.is_quote.pcr_selections;
        fewer = why.more;
        rest = why.rest;
        parts = refl;
        broken = (refl, why.other);
      };
    })))

-- Bytes of a quote without its end: it ends in the magic, in the type, or after them.
in_body : (bytes z more : List ℕ) (q : Quote) → IsQuote q → more ≢ [] → bytes ≡ header_then z
    → z ++ more ≡ body_bytes q → read_quote bytes ≡ err TooShort
in_body bytes z more q is some parts whole = broken_read bytes z TooShort parts
    (body_reader.cut z (record { value = q; is = is; more = more; some = some; whole = whole }))

in_type : (bytes y more : List ℕ) (q : Quote) → IsQuote q → more ≢ [] → bytes ≡ u32_bytes generated_value ++ y
    → y ++ more ≡ u16_bytes attest_quote ++ body_bytes q → read_quote bytes ≡ err TooShort
in_type bytes y more q is some parts whole = elim (cases_lt (length y) 2) [
  | inl lt ↦ not_read bytes TooShort (ap after_header parts ∙ cut_in_type y lt)
  | inr ge ↦
      let (z, type, left) = split_at_length y more (u16_bytes attest_quote) (body_bytes q) whole ge in
      in_body bytes z more q is some (parts ∙ ap (λ t. u32_bytes generated_value ++ t) type) left
]

cut_read : (bytes more : List ℕ) (q : Quote) → IsQuote q → more ≢ [] → bytes ++ more ≡ header_then (body_bytes q)
    → read_quote bytes ≡ err TooShort
cut_read bytes more q is some whole = elim (cases_lt (length bytes) 4) [
  | inl lt ↦ not_read bytes TooShort (cut_in_magic bytes lt)
  | inr ge ↦
      let (y, magic, left) = split_at_length bytes more (u32_bytes generated_value) (u16_bytes attest_quote ++ body_bytes q) whole ge in
      in_type bytes y more q is some magic left
]

short_read : (bytes : List ℕ) → AreTooShort bytes → read_quote bytes ≡ err TooShort
short_read bytes (inl lt) = not_read bytes TooShort (cut_in_magic bytes lt)
short_read bytes (inr (inl ((rest, parts), lt))) = not_read bytes TooShort
    (ap after_header parts ∙ cut_in_type rest (omega (arith, ap length parts, lt)))
short_read bytes (inr (inr short)) =
    cut_read bytes short.more short.value short.is short.some (short.whole ∙ quote_is short.value)

others_left : (q : Quote) (more : List ℕ) → more ≢ [] → alone (q, more) ≡ err LeftOver
unfolding alone
others_left q [] some = absurd (some refl)
others_left q (m ∷ more) some = rw (eqb-suc-zero (length more)) refl

pub verdict_read : (bytes : List ℕ) (verdict : Result Quote QuoteError) → IsVerdict bytes verdict → read_quote bytes ≡ verdict
verdict_read bytes (Ok q) (is, same) = quote_read bytes q is same
verdict_read bytes (Err NotGenerated) why = not_read bytes NotGenerated
    (ap after_header why.first.1 ∙ other_magic why.magic why.first.0 why.fits why.other)
verdict_read bytes (Err (NotQuote kind)) why = not_read bytes (NotQuote kind) (ap after_header
    (why.first.1 ∙ append_assoc (u32_bytes generated_value) (u16_bytes kind) why.first.0)
    ∙ other_type kind why.first.0 why.fits why.other)
verdict_read bytes (Err (Safe value)) why = safe_read bytes value why
verdict_read bytes (Err Selection) why = selection_read bytes why
verdict_read bytes (Err TooShort) why = short_read bytes why
verdict_read bytes (Err LeftOver) why =
    ap read_quote why.whole ∙ whole_read why.quote why.more why.is_quote ∙ others_left why.quote why.more why.some

-- What is found is a fault.
clock_fault : (bytes x : List ℕ) (e : QuoteError) → bytes ≡ header_then x → BreaksInClock x e → HasFault bytes e
clock_fault bytes x e parts why =
    let clock = why.broken.clock in
    let safe = why.broken.safe in
    let q : Quote = quote_given why.signer why.extra clock 0 [] [] in
    subst (HasFault bytes) (sym safe.error) (record {
      quote = q;
      is_quote = record {
        qualified_signer = why.signer_fits;
        extra_data = why.extra_fits;
        clock_info = why.broken.is;
        firmware_version = omega arith;
        pcr_selections = tt;
        count = omega arith;
        pcr_digest = omega arith;
      };
      fits = safe.fits;
      other = safe.other;
      first = (
        safe.rest,
        parts
            ∙ ap header_then (why.parts
            ∙ ap (λ t. sized_bytes why.signer ++ (sized_bytes why.extra ++ t)) (why.broken.parts ∙ ap (before_safe_byte clock) safe.parts))
            ∙ sym (before_safe_then q (safe.value ∷ safe.rest))
            ∙ sym (append_assoc (before_safe q) (safe.value ∷ []) safe.rest),
      );
    })

selection_fault : (bytes x : List ℕ) (e : QuoteError) → bytes ≡ header_then x → BreaksInSelections x e → HasFault bytes e
selection_fault bytes x e parts why =
    let found = why.broken in
    let q : Quote = quote_given why.signer why.extra why.clock why.version found.before [] in
    subst (HasFault bytes) found.broken.0 (record {
      quote = q;
      count = why.count;
      rest = found.rest;
      is_quote = record {
        qualified_signer = why.signer_fits;
        extra_data = why.extra_fits;
        clock_info = why.clock_fits;
        firmware_version = why.version_fits;
        pcr_selections = found.each;
        count = omega (arith, found.fewer, why.count_fits);
        pcr_digest = omega arith;
      };
      fits = why.count_fits;
      more = found.fewer;
      first = parts
          ∙ ap header_then (why.parts
          ∙ ap (λ t. sized_bytes why.signer ++ (sized_bytes why.extra ++ (clock_bytes why.clock ++ (u64_bytes why.version
          ++ (u32_bytes why.count ++ t))))) found.parts)
          ∙ sym (before_selections_then q (u32_bytes why.count ++ (selections_bytes found.before ++ found.rest)));
      other = found.broken.1;
    })

body_fault : (bytes x : List ℕ) (e : QuoteError) → bytes ≡ header_then x → AreBytes x → split_body x ≡ err e → HasFault bytes e
body_fault bytes x e parts fits failed = elim (body_reader.fails x e fits failed) [
  | inl (same, short) ↦ subst (HasFault bytes) (sym same) (inr (inr (record {
    value = short.value;
    is = short.is;
    more = short.more;
    some = short.some;
    whole = ap (λ t. t ++ short.more) parts ∙ header_append x short.more ∙ ap header_then short.whole
        ∙ sym (quote_is short.value);
  })))
  | inr (inl why) ↦ clock_fault bytes x e parts why
  | inr (inr why) ↦ selection_fault bytes x e parts why
]

-- A quote was read, and nothing or something follows it.
alone_verdict : (bytes rest : List ℕ) (q : Quote) (verdict : Result Quote QuoteError) (t : Bool) → IsQuote q
    → bytes ≡ quote_bytes q ++ rest → nat_eq (length rest) 0 ≡ t → cond t (ok q) (err LeftOver) ≡ verdict → IsVerdict bytes verdict
alone_verdict bytes rest q verdict true is parts none same =
    let empty : rest ≡ [] = nil_from_length rest (eqb-true (length rest) 0 none) in
    subst (IsVerdict bytes) same (is, parts ∙ ap (λ t. quote_bytes q ++ t) empty ∙ append-nil (quote_bytes q))
alone_verdict bytes rest q verdict false is parts some same = subst (IsVerdict bytes) same (record {
  quote = q;
  is_quote = is;
  more = rest;
  some = λ none. eqb-false (length rest) 0 some (ap length none);
  whole = parts;
})

body_verdict : (bytes x : List ℕ) (verdict : Result Quote QuoteError) → bytes ≡ header_then x → AreBytes x
    → (split_body x >>= alone) ≡ verdict → IsVerdict bytes verdict
unfolding alone
body_verdict bytes x verdict parts fits read = bind_cases (split_body x) alone verdict (IsVerdict bytes verdict) read
    (λ p first then.
    let (taken, is) = body_reader.takes x p.0 p.1 fits first in
    alone_verdict bytes p.1 p.0 verdict (nat_eq (length p.1) 0) is
    (parts ∙ ap header_then taken.parts ∙ sym (header_append (body_bytes p.0) p.1)
    ∙ ap (λ t. t ++ p.1) (sym (quote_is p.0))) refl then)
    (λ e failed same. subst (IsVerdict bytes) same (body_fault bytes x e parts fits failed))

pub read_verdict : (bytes : List ℕ) (verdict : Result Quote QuoteError) → AreBytes bytes → read_quote bytes ≡ verdict
    → IsVerdict bytes verdict
unfolding read_quote
read_verdict bytes verdict fits read =
    bind_cases (after_header bytes) (λ x. split_body x >>= alone) verdict (IsVerdict bytes verdict) read
    (λ x first then. let found = header_found bytes x fits first in body_verdict bytes x verdict found.parts found.fits then)
    (λ e failed same. subst (IsVerdict bytes) same (header_fault bytes e fits failed))

-- What the reader returns, by a view of the quote.
pub reads_quote : {V : Type 0} (quote_of : V → Quote) (bytes : List ℕ) (read : Result V QuoteError) → AreBytes bytes
    → result_map_both quote_of (λ error. error) read ≡ read_quote bytes → ReadsQuote quote_of bytes read
reads_quote quote_of bytes (Ok view) fits is = record {
  ok = read_verdict bytes (Ok (quote_of view)) fits (sym is);
  err = tt;
  only = λ other verdict. sym (verdict_read bytes other verdict) ∙ sym is;
}
reads_quote quote_of bytes (Err error) fits is = record {
  ok = tt;
  err = read_verdict bytes (Err error) fits (sym is);
  only = λ other verdict. sym (verdict_read bytes other verdict) ∙ sym is;
}

-- The laws.
pub one_quote : OneQuote
one_quote q other is also same = ok_is q other
    (sym (quote_read (quote_bytes q) q is refl) ∙ quote_read (quote_bytes q) other also same)

pub one_verdict : OneVerdict
one_verdict bytes fits = record {
  verdict = read_quote bytes;
  is = read_verdict bytes (read_quote bytes) fits refl;
  only = λ other verdict. sym (verdict_read bytes other verdict);
}
