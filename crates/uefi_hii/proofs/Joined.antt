-- The cut of two texts that an ampersand joins.
use Rattle.std.proofs.Common.{◌≡◌, ◌≢◌, ℕ, Bool, cond, List, [], ◌∷◌, ◌++◌, refl, sym, ◌∙◌, ap, subst, arith}
use Rattle.std.proofs.lemmas.List.{map-append}
use Rattle.std.proofs.lemmas.Bool.{ne_eqb}
use Rattle.std.proofs.lemmas.List.Concat.{flat_map-append}
use Rattle.std.specs.Prelude.{Option, Some, None, Result, Ok, Err, IsOkAnd, codes}
use Rattle.std.specs.List.{onto_first}
use Rattle.uefi_hii.proofs.Pieces.{is_ampersand, not_last, pieces, pieces_some}
use Rattle.uefi_hii.specs.declared.error.ParseError.{ParseError}
use Rattle.uefi_hii.specs.Pairs.{Pair, ampersand, pairs, without_empty_last}
use Rattle.uefi_hii.specs.Configuration.{Configuration}
use Rattle.uefi_hii.specs.Slots.{IsKey}
use Rattle.uefi_hii.specs.Group.{EndsBefore, Group}
use Rattle.uefi_hii.specs.Cut.{AreGroups, Cut, Part, first_pair, pairs_of}
use Rattle.uefi_hii.specs.Laws.{EndsWithAmpersand, EndsWithElement, JoinsCuts, OneCut}
use Rattle.uefi_hii.proofs.Cuts.{group_some, has_one_cut}

-- A character before joined pieces is before the first of them.
onto_joined : (c : ℕ) (t : Bool) (ps qs : List (List ℕ)) → ps ≢ []
    → cond t ([] ∷ ps ++ qs) (onto_first c (ps ++ qs)) ≡ cond t ([] ∷ ps) (onto_first c ps) ++ qs
onto_joined c t ps qs some = grind arith

-- The pieces of joined texts are those of both.
pieces-joined : (x y : List ℕ) → pieces (x ++ ampersand ∷ y) ≡ pieces x ++ pieces y
pieces-joined [] y = refl
pieces-joined (c ∷ x) y =
    rw (pieces-joined x y) (onto_joined c (is_ampersand c) (pieces x) (pieces y) (pieces_some x))

-- One character more leaves pieces as they are of which the last isn't dropped.
one_kept : (c : ℕ) (t : Bool) (ps : List (List ℕ)) → ps ≢ [] → without_empty_last ps ≡ ps
    → without_empty_last (cond t ([] ∷ ps) (onto_first c ps)) ≡ cond t ([] ∷ ps) (onto_first c ps)
one_kept c t ps some kept = grind arith

-- The last piece of a text that doesn't end with an ampersand isn't dropped.
last_kept : (c : ℕ) (x : List ℕ) → ¬ EndsWithAmpersand (c ∷ x) → without_empty_last (pieces (c ∷ x)) ≡ pieces (c ∷ x)
last_kept c [] closed = rw (ne_eqb c ampersand (λ e. closed ([], ap (λ z. z ∷ []) e)))
last_kept c (d ∷ x) closed =
    one_kept c (is_ampersand c) (pieces (d ∷ x)) (pieces_some (d ∷ x))
    (last_kept d x (λ o. closed (c ∷ o.0, ap (λ z. c ∷ z) o.1)))

-- The first of joined pieces are kept.
without_empty_last-append : (ps qs : List (List ℕ)) → qs ≢ []
    → without_empty_last (ps ++ qs) ≡ ps ++ without_empty_last qs
without_empty_last-append [] qs some = refl
without_empty_last-append (p ∷ []) qs some = not_last p qs some
without_empty_last-append (p ∷ r ∷ ps) qs some =
    not_last p (r ∷ ps ++ qs) (λ none. cc) ∙ ap (λ z. p ∷ z) (without_empty_last-append (r ∷ ps) qs some)

-- The pairs of joined texts are those of both.
pairs-joined : (x y : List ℕ) → x ≢ [] → ¬ EndsWithAmpersand x → pairs (x ++ ampersand ∷ y) ≡ pairs x ++ pairs y
pairs-joined [] y some closed = absurd (some refl)
pairs-joined (c ∷ x) y some closed =
    let ends = without_empty_last-append (pieces (c ∷ x)) (pieces y) (pieces_some y) in
    rw (pieces-joined (c ∷ x) y, ends, map-append, last_kept c x closed)

-- What follows a group doesn't change its first pair.
same_first : (g rest more : List Pair) → g ≢ [] → first_pair (g ++ rest) ≡ first_pair (g ++ more)
same_first [] rest more some = absurd (some refl)
same_first (p ∷ g) rest more some = refl

-- Groups of which the last is a configuration with an element stay groups before a pair with the key GUID.
groups-joined : (l m : List Part) → EndsWithElement l → AreGroups l → AreGroups m
    → IsKey (codes "GUID") (first_pair (pairs_of m)) → AreGroups (l ++ m)
groups-joined [] m e a b key = absurd e
groups-joined (g ∷ []) m e a b key = (by_result g.result a.0 e, b)
  where
    by_key : (p : Option Pair) (c : Configuration) → IsKey (codes "GUID") p → c.elements ≢ [] → EndsBefore p c
    by_key None c key some = absurd key
    by_key (Some q) c key some = (key, some)

    by_result : (r : Result Configuration ParseError) → Group g.group None r → IsOkAnd r (λ c. c.elements ≢ [])
        → Group g.group (first_pair (pairs_of m)) r
    by_result (Err x) h some = absurd some
    by_result (Ok c) h some =
        record { not_empty = h.not_empty; gives = (h.gives.0, by_key (first_pair (pairs_of m)) c key some) }
groups-joined (g ∷ h ∷ l) m e a b key =
    let first = same_first h.group (pairs_of l) (pairs_of (l ++ m)) a.1.0.not_empty in
    (rw first at a.0, groups-joined (h ∷ l) m e a.1 b key)

-- A text whose cut has a part isn't empty.
text_some : (x : List ℕ) (l : List Part) → Cut x l → EndsWithElement l → x ≢ []
text_some x [] c e z = e
text_some x (g ∷ l) c e z = group_some g.group (pairs_of l) _ g.result c.each.0 (c.whole ∙ ap pairs z)

joins_cuts : JoinsCuts
joins_cuts x y l m c d closed e key = record {
  whole = flat_map-append (λ z. z.group) l m ∙ ap (λ z. z ++ pairs_of m) c.whole ∙ ap (λ z. pairs x ++ z) d.whole
      ∙ sym (pairs-joined x y (text_some x l c e) closed);
  each = groups-joined l m e c.each d.each (subst (λ z. IsKey (codes "GUID") (first_pair z)) (sym d.whole) key);
}

pub one_cut : OneCut
one_cut = record { one = has_one_cut; joined = joins_cuts }
