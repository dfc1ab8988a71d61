-- Units are compared with characters, up to the first NUL of these.
use Rattle.std.proofs.Common.{◌≡◌, ◌≢◌, ℕ, zero, suc, ◌+◌, ◌<◌, ◌≤◌, ◌==◌, ◌↔◌, inl, inr, IsTrue, List, [], ◌∷◌, ◌++◌, length}
use Rattle.std.proofs.Common.{get_or, take, drop, drop-cons, refl, sym, ap, ◌∙◌, arith, eqb-true}
use Rattle.std.proofs.lemmas.Bool.{eq-eqb, cases_lt}
use Rattle.std.proofs.lemmas.List.{take_more, take_all, drop_all, get_or_read, length-take-le, length-append, append-nil}
use Rattle.std.proofs.Math.Seq.{get_or-append_seam}
use Rattle.uefi_base.specs.Utf16.{before_nul}
use Rattle.uefi_base.proofs.Utf16.{unit_kept}

-- As many units as there are characters before the index are these characters, and none of them is the NUL.
pub record AgreeTo (units characters : List ℕ) (index : ℕ) : Type 0 where
  pub within : index ≤ length units
  pub counted : index ≤ length characters
  pub same : take index units ≡ take index characters
  pub kept : (k : ℕ) → k < index → get_or characters k 0 ≢ 0

pub agree_first : (units characters : List ℕ) → AgreeTo units characters 0
agree_first units characters = record {
  within = omega arith;
  counted = omega arith;
  same = refl;
  kept = λ k before. absurd (omega arith);
}

-- One more unit is the next character.
pub agree_more : (units characters : List ℕ) (index : ℕ) → AgreeTo units characters index → index < length units
    → index < length characters → get_or characters index 0 ≢ 0 → get_or units index 0 ≡ get_or characters index 0
    → AgreeTo units characters (index + 1)
agree_more units characters index agree unit_within within kept same = record {
  within = omega (arith, unit_within);
  counted = omega (arith, within);
  same = take_more units index 0 unit_within
      ∙ (λ i. agree.same i ++ same i ∷ [])
      ∙ sym (take_more characters index 0 within);
  kept = λ k before. elim (cases_lt k index) [
    | inl earlier ↦ agree.kept k earlier
    | inr later ↦ let here : k ≡ index = omega (arith, before, later) in rw here kept
  ];
}

-- What is before the NUL begins with the characters that aren't it.
split_at : (characters : List ℕ) (index : ℕ) → index ≤ length characters
    → ((k : ℕ) → k < index → get_or characters k 0 ≢ 0)
    → before_nul characters ≡ take index characters ++ before_nul (drop index characters)
split_at characters zero within kept = refl
split_at [] (suc index) within kept = absurd (omega (arith, within))
split_at (c ∷ characters) (suc index) within kept =
    unit_kept c characters (kept 0 (omega arith))
    ∙ ap (λ l. c ∷ l) (split_at characters index (omega (arith, within))
    (λ k before. kept (suc k) (omega (arith, before))))

-- Where the characters end, or the next is the NUL, all of them have been compared.
ended : (units characters : List ℕ) (index : ℕ) → AgreeTo units characters index
    → before_nul (drop index characters) ≡ [] → IsTrue (index == length units) ↔ (units ≡ before_nul characters)
ended units characters index agree none = (
  (λ is. let all : index ≡ length units = eqb-true _ _ is in
      sym (take_all index units (omega (arith, all))) ∙ agree.same ∙ sym whole),
  (λ is. let count : length units ≡ index = ap length (is ∙ whole) ∙ length-take-le index characters agree.counted in
      eq-eqb index (length units) (sym count)),
)
  where
    whole : before_nul characters ≡ take index characters
    whole = split_at characters index agree.counted agree.kept ∙ ap (λ l. take index characters ++ l) none ∙ append-nil _

pub ended_at_end : (units characters : List ℕ) (index : ℕ) → AgreeTo units characters index
    → index ≡ length characters → IsTrue (index == length units) ↔ (units ≡ before_nul characters)
ended_at_end units characters index agree end =
    ended units characters index agree (ap before_nul (drop_all index characters (omega (arith, end))))

pub ended_at_nul : (units characters : List ℕ) (index : ℕ) → AgreeTo units characters index
    → index < length characters → get_or characters index 0 ≡ 0
    → IsTrue (index == length units) ↔ (units ≡ before_nul characters)
ended_at_nul units characters index agree within nul =
    ended units characters index agree
    (ap before_nul (drop-cons characters index 0 within ∙ ap (λ c. c ∷ drop (suc index) characters) nul))

-- Where another character follows, the units aren't what is before the NUL, unless the next unit is it.
goes_on : (units characters : List ℕ) (index : ℕ) → AgreeTo units characters index → index < length characters
    → get_or characters index 0 ≢ 0
    → before_nul characters
    ≡ take index characters ++ get_or characters index 0 ∷ before_nul (drop (suc index) characters)
goes_on units characters index agree within kept =
    split_at characters index agree.counted agree.kept
    ∙ ap (λ l. take index characters ++ l)
    (ap before_nul (drop-cons characters index 0 within) ∙ unit_kept _ (drop (suc index) characters) kept)

pub too_few : (units characters : List ℕ) (index : ℕ) → AgreeTo units characters index → index < length characters
    → get_or characters index 0 ≢ 0 → index ≡ length units → units ≡ before_nul characters → ⊥
too_few units characters index agree within kept all same =
    let count = ap length (same ∙ goes_on units characters index agree within kept) in
    let parts = length-append (take index characters)
    (get_or characters index 0 ∷ before_nul (drop (suc index) characters)) in
    omega (arith, count, parts, length-take-le index characters agree.counted, all)

pub other_unit : (units characters : List ℕ) (index : ℕ) → AgreeTo units characters index → index < length characters
    → get_or characters index 0 ≢ 0 → get_or units index 0 ≢ get_or characters index 0
    → units ≡ before_nul characters → ⊥
other_unit units characters index agree within kept differ same =
    let seam = get_or-append_seam (take index characters) (get_or characters index 0)
    (before_nul (drop (suc index) characters)) 0 in
    let taken = length-take-le index characters agree.counted in
    differ (ap (λ l. get_or l index 0) (same ∙ goes_on units characters index agree within kept) ∙ (rw taken at seam))

-- The next item of the characters is the one at the index.
pub next_is : (characters : List ℕ) (count index next : ℕ) → index ≡ count
    → (count < length characters) × (next ≡ get_or characters count next)
    → (index < length characters) × (next ≡ get_or characters index 0)
next_is characters count index next same turn =
    rw same (turn.0, get_or_read characters count next turn.0 turn.1 0)

pub not_nul : (characters : List ℕ) (index next : ℕ) → next ≡ get_or characters index 0 → next ≢ 0
    → get_or characters index 0 ≢ 0
not_nul characters index next here kept nul = kept (here ∙ nul)
