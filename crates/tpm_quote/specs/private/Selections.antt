-- Bytes begin with so many selections in at most one way, so that an iterator may keep them.
use Rattle.std.proofs.Common.{◌≡◌, ℕ, List, [], ◌∷◌, ◌++◌, length, take, drop, get_or, refl, sym, ◌∙◌, ap, append_assoc, arith}
use Rattle.std.proofs.Math.Seq.{take-append_seam}
use Rattle.std.proofs.Props.{props}
use mathlib.Core.HLevel.{Σ_prop_path, is_prop→PathP}
use Rattle.std.proofs.lemmas.List.{append_cancel_left}
use Rattle.std.proofs.lemmas.Nat.{from_be_bytes-to_be_bytes_2}
use Rattle.std.specs.Int.{w16, from_be_bytes}
use Rattle.std.specs.List.{flat_map, AllByRecursion, AllByRecursion-prop}
use Rattle.uefi_base.specs.Prefix.{IsPrefix}
use Rattle.tpm_quote.specs.BigEndian.{u16_bytes}
use Rattle.tpm_quote.specs.PcrSelection.{PcrSelection, IsPcrSelection, HasSelections, selection_bytes}

-- Lists of one length that start the same list are equal, and so is what follows them.
same_split : (a b x y : List ℕ) → length a ≡ length b → a ++ x ≡ b ++ y → (a ≡ b) × (x ≡ y)
same_split a b x y same e =
    let part : a ≡ b =
    sym (take-append_seam a x) ∙ ap (λ n. take n (a ++ x)) same ∙ ap (take (length b)) e ∙ take-append_seam b y in
    (part, append_cancel_left b x y (ap (λ p. p ++ x) (sym part) ∙ e))

-- The bytes of a selection determine it, whatever follows them.
one_selection : (s t : PcrSelection) (x y : List ℕ) → IsPcrSelection s → IsPcrSelection t
    → selection_bytes s ++ x ≡ selection_bytes t ++ y → (s ≡ t) × (x ≡ y)
unfolding selection_bytes
one_selection s t x y is also e =
    let parts = same_split (u16_bytes s.algorithm) (u16_bytes t.algorithm) (length s.bitmap ∷ (s.bitmap ++ x))
    (length t.bitmap ∷ (t.bitmap ++ y)) refl e in
    let algorithm : s.algorithm ≡ t.algorithm =
    sym (from_be_bytes-to_be_bytes_2 s.algorithm is.algorithm) ∙ ap (from_be_bytes w16) parts.0
    ∙ from_be_bytes-to_be_bytes_2 t.algorithm also.algorithm in
    let sized : length s.bitmap ≡ length t.bitmap = ap (λ b. get_or b 0 0) parts.1 in
    let bits = same_split s.bitmap t.bitmap x y sized (ap (drop 1) parts.1) in
    (λ i. record { algorithm = algorithm i; bitmap = bits.0 i }, bits.1)

-- So do those of selections, if it is known how many they are.
same_selections : (ss ts : List PcrSelection) (x y : List ℕ) → AllByRecursion IsPcrSelection ss
    → AllByRecursion IsPcrSelection ts → length ss ≡ length ts
    → flat_map selection_bytes ss ++ x ≡ flat_map selection_bytes ts ++ y → ss ≡ ts
same_selections [] [] x y each also counted e = refl
same_selections [] (t ∷ ts) x y each also counted e = absurd (omega arith)
same_selections (s ∷ ss) [] x y each also counted e = absurd (omega arith)
same_selections (s ∷ ss) (t ∷ ts) x y each also counted e =
    let first = one_selection s t (flat_map selection_bytes ss ++ x) (flat_map selection_bytes ts ++ y) each.0 also.0
    (sym (append_assoc (selection_bytes s) (flat_map selection_bytes ss) x) ∙ e
    ∙ append_assoc (selection_bytes t) (flat_map selection_bytes ts) y) in
    let others = same_selections ss ts x y each.1 also.1 (omega (arith, counted)) first.1 in
    λ i. first.0 i ∷ others i

-- There is at most one proof of each of the facts.
IsPcrSelection-prop : (selection : PcrSelection) → IsProp (IsPcrSelection selection)
IsPcrSelection-prop selection = hlevel props

IsPrefix-prop : (prefix bytes : List ℕ) → IsProp (IsPrefix prefix bytes)
IsPrefix-prop prefix bytes s t =
    Σ_prop_path (λ rest. hlevel props) (append_cancel_left prefix s.0 t.0 (sym s.1 ∙ t.1))

pub HasSelections-prop : (count : ℕ) (bytes : List ℕ) → IsProp (HasSelections count bytes)
HasSelections-prop count bytes s t =
    let same : s.selections ≡ t.selections =
    same_selections s.selections t.selections s.first.0 t.first.0 s.each t.each (s.counted ∙ sym t.counted)
    (sym s.first.1 ∙ t.first.1) in
    λ i. record {
      selections = same i;
      each = is_prop→PathP (λ j. AllByRecursion IsPcrSelection (same j))
          (λ j. AllByRecursion-prop IsPcrSelection IsPcrSelection-prop (same j)) s.each t.each i;
      counted = is_prop→PathP (λ j. length (same j) ≡ count) (λ j. hlevel props) s.counted t.counted i;
      first = is_prop→PathP (λ j. IsPrefix (flat_map selection_bytes (same j)) bytes)
          (λ j. IsPrefix-prop (flat_map selection_bytes (same j)) bytes) s.first t.first i;
    }
