-- Readers of fields: what each reads is what was written, what was written is read again, and where it fails the bytes
-- are cut, or broken in a way that it states.
use Rattle.std.proofs.Common.{◌≡◌, ◌≢◌, ℕ, ◌<◌, ◌≤◌, Bool, true, false, cond, List, [], ◌∷◌, ◌++◌, length, drop}
use Rattle.std.proofs.Common.{◌⊎◌, inl, inr, refl, sym, ◌∙◌, ap, subst, append_assoc, length-append, arith}
use Rattle.std.specs.Prelude.{Result, Ok, Err}
use Rattle.std.proofs.lemmas.Bool.{cases_lt}
use Rattle.uefi_base.specs.LittleEndian.{AreBytes}
use Rattle.tpm_quote.specs.Fault.{IsCut}
use Rattle.tpm_quote.specs.private.Reading.{Split, ◌>>=◌}
use Rattle.tpm_quote.specs.declared.quote_error.QuoteError.{QuoteError}
use Rattle.tpm_quote.specs.declared.quote_error.QuoteError.TheVariants.{TooShort}
use Rattle.tpm_quote.proofs.Selections.{ok, err, ok_is}

-- What was taken from the beginning of the bytes, and what is left.
pub record Takes (x part rest : List ℕ) : Type 0 where
  pub parts : x ≡ part ++ rest
  pub rest_fits : AreBytes rest

-- Why a reader fails: the bytes are cut, or broken.
abbrev pub Breaking : Type 1
Breaking = List ℕ → QuoteError → Type 0

abbrev pub Fails : {A : Type 0} → (A → Type 0) → (A → List ℕ) → Breaking → List ℕ → QuoteError → Type 0
Fails Is write Broken x e = ((e ≡ TooShort) × IsCut Is write x) ⊎ Broken x e

-- Nothing breaks these bytes.
abbrev pub Never : Breaking
Never x e = ⊥

pub record IsReader {A : Type 0} (read : List ℕ → Split A) (write : A → List ℕ) (Is : A → Type 0)
    (Broken : Breaking) : Type 0 where
  pub takes : (x : List ℕ) (a : A) (rest : List ℕ) → AreBytes x → read x ≡ ok (a, rest) → Takes x (write a) rest × Is a
  pub again : (a : A) (rest : List ℕ) → Is a → read (write a ++ rest) ≡ ok (a, rest)
  pub fails : (x : List ℕ) (e : QuoteError) → AreBytes x → read x ≡ err e → Fails Is write Broken x e
  pub broken : (x : List ℕ) (e : QuoteError) → Broken x e → read x ≡ err e
  pub cut : (x : List ℕ) → IsCut Is write x → read x ≡ err TooShort
  pub some : (a : A) × Is a

-- The bytes begin with a field, and what follows is broken.
pub record BreaksAfter {A : Type 0} (write : A → List ℕ) (Is : A → Type 0) (Broken : A → Breaking)
    (x : List ℕ) (e : QuoteError) : Type 0 where
  pub field : A
  pub is : Is field
  pub rest : List ℕ
  pub parts : x ≡ write field ++ rest
  pub broken : Broken field rest e

-- A step after a field.
pub bind_cases : {A B : Type 0} (r : Result A QuoteError) (f : A → Result B QuoteError) (y : Result B QuoteError) (C : Type 0)
    → (r >>= f) ≡ y → ((a : A) → r ≡ ok a → f a ≡ y → C) → ((e : QuoteError) → r ≡ err e → err e ≡ y → C) → C
bind_cases (Ok a) f y C is at_ok at_err = at_ok a refl is
bind_cases (Err e) f y C is at_ok at_err = at_err e refl is

pub err_is : {A : Type 0} (d e : QuoteError) → err {A = A} d ≡ err {A = A} e → d ≡ e
err_is d e is = cc

pub not_err : {A C : Type 0} (e : QuoteError) (a : A) → err e ≡ ok a → C
not_err e a is = absurd cc

pub not_ok : {A C : Type 0} (e : QuoteError) (a : A) → ok a ≡ err e → C
not_ok e a is = absurd cc

-- Lists that begin the same list: one is a prefix of the other.
pub split_at_length : (a b c d : List ℕ) → a ++ b ≡ c ++ d → length c ≤ length a → (m : List ℕ) × (a ≡ c ++ m) × (m ++ b ≡ d)
split_at_length a b [] d is le = (a, refl, is)
split_at_length [] b (y ∷ c) d is le = absurd (omega arith)
split_at_length (x ∷ a) b (y ∷ c) d is le =
    let tail : a ++ b ≡ c ++ d = ap (drop 1) is in
    let head : x ≡ y = cc in
    let rest = split_at_length a b c d tail (omega arith) in
    (rest.0, (λ i. head i ∷ rest.1 i), rest.2)

-- Bytes and more are those of a list that is longer.
pub more_some : (more others : List ℕ) → more ≢ [] → more ++ others ≢ []
more_some [] others some is = some refl
more_some (m ∷ more) others some is = absurd cc

pub longer_some : (a x m : List ℕ) → a ≡ x ++ m → length x < length a → m ≢ []
longer_some a x m is lt none =
    absurd (omega (arith, ap length is, length-append x m, ap length none))

pub cut_shorter : (x more a : List ℕ) → x ++ more ≡ a → more ≢ [] → length x < length a
cut_shorter x [] a is some = absurd (some refl)
cut_shorter x (m ∷ more) a is some = omega (arith, ap length is, length-append x (m ∷ more))

-- A field and those after it. `of` is the field of what is read, and `next` reads the others, which know it.
module _ {A B : Type 0} {read : List ℕ → Split A} {write : A → List ℕ} {Is : A → Type 0} {Broken : Breaking}
    {next : A → List ℕ → Split B} {after : B → List ℕ} {Known Others : B → Type 0} {Breaks : A → Breaking}
    (field : IsReader read write Is Broken) (of : B → A)
    (others : (a : A) → Is a → IsReader (next a) after (λ b. (Known b × (of b ≡ a)) × Others b) (Breaks a)) where
  abbrev BothAre : B → Type 0
  BothAre b = Known b × (Is (of b) × Others b)

  abbrev both_bytes : B → List ℕ
  both_bytes b = write (of b) ++ after b

  abbrev read_both : List ℕ → Split B
  read_both x = read x >>= λ p. next p.0 p.1

  abbrev BothBreak : Breaking
  BothBreak x e = Broken x e ⊎ BreaksAfter write Is Breaks x e

  then_takes : (x r rest : List ℕ) (a : A) (b : B) → Takes x (write a) r → Is a → Takes r (after b) rest
      → (Known b × (of b ≡ a)) × Others b → Takes x (both_bytes b) rest × BothAre b
  then_takes x r rest a b first is more known = (
    record {
      parts = first.parts ∙ ap (λ t. write a ++ t) more.parts ∙ sym (append_assoc (write a) (after b) rest)
          ∙ ap (λ c. (write c ++ after b) ++ rest) (sym known.0.1);
      rest_fits = more.rest_fits;
    },
    (known.0.0, (subst Is (sym known.0.1) is, known.1)),
  )

  cut_first : (x : List ℕ) → IsCut Is write x → IsCut BothAre both_bytes x
  cut_first x short =
      let (b, ((known, same), is)) = (others short.value short.is).some in
      record {
        value = b;
        is = (known, (subst Is (sym same) short.is, is));
        more = short.more ++ after b;
        some = more_some short.more (after b) short.some;
        whole = sym (append_assoc x short.more (after b)) ∙ ap (λ t. t ++ after b) short.whole
            ∙ ap (λ c. write c ++ after b) (sym same);
      }

  cut_after : (x r : List ℕ) (a : A) → x ≡ write a ++ r → Is a
      → IsCut (λ b. (Known b × (of b ≡ a)) × Others b) after r → IsCut BothAre both_bytes x
  cut_after x r a parts is short = record {
    value = short.value;
    is = (short.is.0.0, (subst Is (sym short.is.0.1) is, short.is.1));
    more = short.more;
    some = short.some;
    whole = ap (λ t. t ++ short.more) parts ∙ append_assoc (write a) r short.more
        ∙ ap (λ t. write a ++ t) short.whole ∙ ap (λ c. write c ++ after short.value) (sym short.is.0.1);
  }

  then_fails : (x : List ℕ) (e : QuoteError) → AreBytes x → read_both x ≡ err e
      → Fails BothAre both_bytes BothBreak x e
  then_fails x e fits failed = bind_cases (read x) (λ p. next p.0 p.1) (err e) _ failed in_others in_first
    where
      in_others : (p : A × List ℕ) → read x ≡ ok p → next p.0 p.1 ≡ err e → Fails BothAre both_bytes BothBreak x e
      in_others p first failed =
          let (taken, is) = field.takes x p.0 p.1 fits first in
          elim ((others p.0 is).fails p.1 e taken.rest_fits failed) [
            | inl short ↦ inl (short.0, cut_after x p.1 p.0 taken.parts is short.1)
            | inr broken ↦ inr (inr
                (record { field = p.0; is = is; rest = p.1; parts = taken.parts; broken = broken }))
          ]

      in_first : (d : QuoteError) → read x ≡ err d → err {A = B × List ℕ} d ≡ err {A = B × List ℕ} e → Fails BothAre both_bytes BothBreak x e
      in_first d first same =
          let is : d ≡ e = err_is d e same in
          elim (field.fails x e fits (first ∙ ap err is)) [
            | inl short ↦ inl (short.0, cut_first x short.1)
            | inr broken ↦ inr (inl broken)
          ]

  then_broken : (x : List ℕ) (e : QuoteError) → BothBreak x e → read_both x ≡ err e
  then_broken x e (inl broken) = rw (field.broken x e broken) refl
  then_broken x e (inr behind) =
      rw (behind.parts, field.again behind.field behind.rest behind.is)
      ((others behind.field behind.is).broken behind.rest e behind.broken)

  then_cut : (x : List ℕ) → IsCut BothAre both_bytes x → read_both x ≡ err TooShort
  then_cut x short =
      let b = short.value in
      let is : Is (of b) = short.is.1.0 in
      elim (cases_lt (length x) (length (write (of b)))) [
        | inl lt ↦
            let (m, first, left) = split_at_length (write (of b)) (after b) x short.more (sym short.whole) (omega (arith, lt)) in
            rw (field.cut x (record {
              value = of b;
              is = is;
              more = m;
              some = longer_some (write (of b)) x m first lt;
              whole = sym first;
            })) refl
        | inr ge ↦
            let (m, first, left) = split_at_length x short.more (write (of b)) (after b) short.whole ge in
            rw (first, field.again (of b) m is) ((others (of b) is).cut m (record {
              value = b;
              is = ((short.is.0, refl), short.is.1.1);
              more = short.more;
              some = short.some;
              whole = left;
            }))
      ]

  pub then_reader : IsReader read_both both_bytes BothAre BothBreak
  then_reader = record {
    takes = λ x b rest fits e. bind_cases (read x) (λ p. next p.0 p.1) (ok (b, rest)) _ e
        (λ p first then.
        let taken = field.takes x p.0 p.1 fits first in
        let more = (others p.0 taken.1).takes p.1 b rest taken.0.rest_fits then in
        then_takes x p.1 rest p.0 b taken.0 taken.1 more.0 more.1)
        (λ d first no. not_err d (b, rest) no);
    again = λ b rest is.
        rw (append_assoc, field.again (of b) (after b ++ rest) is.1.0)
        ((others (of b) is.1.0).again b rest ((is.0, refl), is.1.1));
    fails = then_fails;
    broken = then_broken;
    cut = then_cut;
    some =
        let (a, is) = field.some in
        let (b, ((known, same), more)) = (others a is).some in (b, (known, (subst Is (sym same) is, more)));
  }

-- The same reader, in other words.
pub fits_reader : {A : Type 0} {read : List ℕ → Split A} {write others : A → List ℕ} {Is Are : A → Type 0} {Broken Breaks : Breaking}
    → IsReader read write Is Broken → ((a : A) → Is a → Are a) → ((a : A) → Are a → Is a)
    → ((a : A) → Is a → write a ≡ others a) → ((x : List ℕ) (e : QuoteError) → Broken x e → Breaks x e)
    → ((x : List ℕ) (e : QuoteError) → Breaks x e → Broken x e) → IsReader read others Are Breaks
fits_reader {A} {read} {write} {others} {Is} {Are} {Broken} {Breaks} reader to from same broken breaks = record {
  takes = λ x a rest fits e.
      let (taken, is) = reader.takes x a rest fits e in
      (subst (λ c. Takes x c rest) (same a is) taken, to a is);
  again = λ a rest is. ap (λ c. read (c ++ rest)) (sym (same a (from a is))) ∙ reader.again a rest (from a is);
  fails = λ x e fits failed. elim (reader.fails x e fits failed) [
    | inl short ↦ inl (
      short.0,
      record {
        value = short.1.value;
        is = to short.1.value short.1.is;
        more = short.1.more;
        some = short.1.some;
        whole = short.1.whole ∙ same short.1.value short.1.is;
      },
    )
    | inr why ↦ inr (broken x e why)
  ];
  broken = λ x e why. reader.broken x e (breaks x e why);
  cut = λ x short. reader.cut x (record {
    value = short.value;
    is = from short.value short.is;
    more = short.more;
    some = short.some;
    whole = short.whole ∙ sym (same short.value (from short.value short.is));
  });
  some = (reader.some.0, to reader.some.0 reader.some.1);
}

-- The last field. What is read is made of it and of what is known.
module _ {A B : Type 0} {read : List ℕ → Split A} {write : A → List ℕ} {Is : A → Type 0} {Broken : Breaking} {Known : B → Type 0}
    (field : IsReader read write Is Broken) (make : A → B) (of : B → A)
    (made : (a : A) → Is a → Known (make a) × (of (make a) ≡ a)) (back : (b : B) → Known b → make (of b) ≡ b) where
  abbrev read_last : List ℕ → Split B
  read_last x = read x >>= λ last. ok (make last.0, last.1)

  abbrev LastIs : B → Type 0
  LastIs b = Known b × Is (of b)

  last_made : (x rest : List ℕ) (a : A) → Takes x (write a) rest → Is a → Takes x (write (of (make a))) rest × LastIs (make a)
  last_made x rest a taken is =
      let (known, same) = made a is in
      (subst (λ c. Takes x (write c) rest) (sym same) taken, (known, subst Is (sym same) is))

  last_fails : (x : List ℕ) (e : QuoteError) → Fails Is write Broken x e → Fails LastIs (λ b. write (of b)) Broken x e
  last_fails x e (inr why) = inr why
  last_fails x e (inl (same, short)) =
      let (known, again) = made short.value short.is in
      inl (
        same,
        record {
          value = make short.value;
          is = (known, subst Is (sym again) short.is);
          more = short.more;
          some = short.some;
          whole = short.whole ∙ ap write (sym again);
        },
      )

  pub last_reader : IsReader read_last (λ b. write (of b)) LastIs Broken
  last_reader = record {
    takes = λ x b rest fits e. bind_cases (read x) (λ last. ok (make last.0, last.1)) (ok (b, rest)) _ e
        (λ p first done.
        let (taken, is) = field.takes x p.0 p.1 fits first in
        subst (λ q. Takes x (write (of q.0)) q.1 × LastIs q.0) (ok_is (make p.0, p.1) (b, rest) done)
        (last_made x p.1 p.0 taken is))
        (λ d first no. not_err d (b, rest) no);
    again = λ b rest is. rw (field.again (of b) rest is.1, back b is.0) refl;
    fails = λ x e fits failed. bind_cases (read x) (λ last. ok (make last.0, last.1)) (err e) _ failed
        (λ p first done. not_ok e (make p.0, p.1) done)
        (λ d first same. last_fails x e (field.fails x e fits (first ∙ ap err (err_is {A = B × List ℕ} d e same))));
    broken = λ x e why. rw (field.broken x e why) refl;
    cut = λ x short. rw (field.cut x (record {
      value = of short.value;
      is = short.is.1;
      more = short.more;
      some = short.some;
      whole = short.whole;
    })) refl;
    some = let (a, is) = field.some in let (known, same) = made a is in (make a, (known, subst Is (sym same) is));
  }

-- A field that a test refuses, for a reason that its value gives.
module _ {A : Type 0} {read : List ℕ → Split A} {write : A → List ℕ} {Is : A → Type 0} {Broken : Breaking}
    (field : IsReader read write Is Broken) (refuses : A → Bool) (why : A → QuoteError)
    (keeps : (x : List ℕ) → IsCut Is write x → IsCut (λ a. Is a × (refuses a ≡ false)) write x)
    (some : (a : A) × Is a × (refuses a ≡ false)) where
  abbrev given : A × List ℕ → Split A
  given p = cond (refuses p.0) (err (why p.0)) (ok p)

  abbrev Passes : A → Type 0
  Passes a = Is a × (refuses a ≡ false)

  abbrev Refuses : A → Breaking
  Refuses a x e = (refuses a ≡ true) × (why a ≡ e)

  abbrev PassesNot : Breaking
  PassesNot x e = Broken x e ⊎ BreaksAfter write Is Refuses x e

  given_ok : (a b : A) (r rest : List ℕ) (test : Bool) → refuses a ≡ test → cond test (err {A = A × List ℕ} (why a)) (ok {A = A × List ℕ} (a, r)) ≡ ok {A = A × List ℕ} (b, rest)
      → (refuses a ≡ false) × (ok {A = A × List ℕ} (a, r) ≡ ok (b, rest))
  given_ok a b r rest true is e = not_err (why a) (b, rest) e
  given_ok a b r rest false is e = (is, e)

  given_err : (a : A) (r : List ℕ) (e : QuoteError) (test : Bool) → refuses a ≡ test → cond test (err {A = A × List ℕ} (why a)) (ok {A = A × List ℕ} (a, r)) ≡ err {A = A × List ℕ} e
      → (refuses a ≡ true) × (why a ≡ e)
  given_err a r e true is same = (is, err_is {A = A × List ℕ} (why a) e same)
  given_err a r e false is same = not_ok e (a, r) same

  guard_fails : (x : List ℕ) (e : QuoteError) → Fails Is write Broken x e → Fails Passes write PassesNot x e
  guard_fails x e (inl (same, short)) = inl (same, keeps x short)
  guard_fails x e (inr broken) = inr (inl broken)

  guard_broken : (x : List ℕ) (e : QuoteError) → PassesNot x e → (read x >>= given) ≡ err e
  guard_broken x e (inl broken) = rw (field.broken x e broken) refl
  guard_broken x e (inr behind) =
      rw (behind.parts, field.again behind.field behind.rest behind.is, behind.broken.0) (ap err behind.broken.1)

  pub guard_reader : IsReader (λ x. read x >>= given) write Passes PassesNot
  guard_reader = record {
    takes = λ x a rest fits e. bind_cases (read x) given (ok (a, rest)) _ e
        (λ p first then.
        let (taken, is) = field.takes x p.0 p.1 fits first in
        let passed = given_ok p.0 a p.1 rest (refuses p.0) refl then in
        subst (λ q. Takes x (write q.0) q.1 × Passes q.0) (ok_is p (a, rest) passed.1) (taken, (is, passed.0)))
        (λ d first no. not_err d (a, rest) no);
    again = λ a rest is. rw (field.again a rest is.0, is.1) refl;
    fails = λ x e fits failed. bind_cases (read x) given (err e) _ failed
        (λ p first then.
        let (taken, is) = field.takes x p.0 p.1 fits first in
        let refused = given_err p.0 p.1 e (refuses p.0) refl then in
        inr (inr (record { field = p.0; is = is; rest = p.1; parts = taken.parts; broken = refused })))
        (λ d first same. guard_fails x e (field.fails x e fits (first ∙ ap err (err_is {A = A × List ℕ} d e same))));
    broken = guard_broken;
    cut = λ x short. rw (field.cut x (record {
      value = short.value;
      is = short.is.0;
      more = short.more;
      some = short.some;
      whole = short.whole;
    })) refl;
    some = (some.0, (some.1, some.2));
  }
