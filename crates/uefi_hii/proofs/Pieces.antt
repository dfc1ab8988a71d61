-- The first piece of a text, and how many pairs a text has.
use Rattle.std.proofs.Common.{◌≡◌, ◌≢◌, ℕ, ◌+◌, ◌<◌, ◌≤◌, Bool, cond, not, List, [], ◌∷◌, length, map}
use Rattle.std.proofs.Common.{suc, refl, ◌∙◌, ap, arith, inl, inr, lit≤}
use Rattle.std.specs.Prelude.{◌==◌, Option}
use Rattle.std.specs.List.{onto_first, before_first, after_first, position_or_len, slice_split}
use Rattle.std.proofs.lemmas.Bool.{cases_lt}
use Rattle.std.proofs.lemmas.List.{drop_all, length-map, take_all}
use Rattle.std.proofs.lemmas.List.Sums.{fails_before_first, prefix_len-le-length}
use Rattle.std.proofs.lemmas.List.Splits.{slice_split_first, slice_split_none, length-slice_split}
use Rattle.uefi_hii.specs.Pairs.{Pair, ampersand, pair_of, pairs, without_empty_last}

abbrev pub is_ampersand : ℕ → Bool
is_ampersand c = c == ampersand

-- The pieces of a text between its ampersands.
abbrev pub pieces : List ℕ → List (List ℕ)
pieces text = slice_split is_ampersand text

-- A pair, by its key and its value.
abbrev by_parts : List ℕ → Option (List ℕ) → Pair
by_parts key value = record { key = key; value = value }

-- A text has a piece.
pub pieces_some : (text : List ℕ) → pieces text ≢ []
pieces_some text none = absurd (omega (arith, length-slice_split is_ampersand text, ap (λ ps. length ps) none))

-- A piece that others follow isn't dropped.
pub not_last : (piece : List ℕ) (others : List (List ℕ)) → others ≢ []
    → without_empty_last (piece ∷ others) ≡ piece ∷ without_empty_last others
not_last piece others some = grind arith

-- The pairs of a text with an ampersand are that of its first piece, and those of the text after it.
pairs_first : (text : List ℕ) → position_or_len is_ampersand text < length text
    → pairs text ≡ pair_of (before_first is_ampersand text) ∷ pairs (after_first is_ampersand text)
pairs_first text some =
    let rest : List ℕ = after_first is_ampersand text in
    ap (λ ps. map pair_of (without_empty_last ps)) (slice_split_first is_ampersand text 0 some)
    ∙ ap (map pair_of) (not_last (before_first is_ampersand text) (pieces rest) (pieces_some rest))

-- A text without an ampersand is one pair.
pairs_alone : (text : List ℕ) → text ≢ [] → position_or_len is_ampersand text ≡ length text
    → pairs text ≡ pair_of text ∷ []
pairs_alone [] some e = absurd (some refl)
pairs_alone (c ∷ text) some e =
    ap (λ ps. map pair_of (without_empty_last ps))
    (slice_split_none is_ampersand (c ∷ text)
    (λ k d within. fails_before_first is_ampersand (c ∷ text) k d (omega arith)))

-- The pairs of a text are that of its first piece, and those of the text after it.
pub pairs_cut : (text : List ℕ) → text ≢ []
    → pairs text ≡ pair_of (before_first is_ampersand text) ∷ pairs (after_first is_ampersand text)
pairs_cut text some = elim (cases_lt (position_or_len is_ampersand text) (length text)) [
  | inl within ↦ pairs_first text within
  | inr past ↦
      let end : position_or_len is_ampersand text ≡ length text =
      omega (arith, prefix_len-le-length (λ c. not (is_ampersand c)) text) in
      let piece = take_all (position_or_len is_ampersand text) text past in
      let rest = drop_all (position_or_len is_ampersand text + 1) text (omega arith) in
      rw (piece, rest) (pairs_alone text some end)
]

-- The same pair, and the same rest.
pub same_step : (all : List Pair) (k l r s : List ℕ) (v w : Option (List ℕ)) → k ≡ l → v ≡ w → r ≡ s
    → all ≡ by_parts l w ∷ pairs s → all ≡ by_parts k v ∷ pairs r
same_step all k l r s v w key value rest step = cc

-- A text has at most as many pairs as characters.
one_more : (c n : ℕ) (t : Bool) (ps : List (List ℕ)) → length (without_empty_last ps) ≤ n
    → length (without_empty_last (cond t ([] ∷ ps) (onto_first c ps))) ≤ suc n
one_more c n t ps few = grind arith

few_pieces : (text : List ℕ) → length (without_empty_last (pieces text)) ≤ length text
few_pieces [] = lit≤ tt
few_pieces (c ∷ text) = one_more c (length text) (is_ampersand c) (pieces text) (few_pieces text)

pub few_pairs : (text : List ℕ) → length (pairs text) ≤ length text
few_pairs text = omega (arith, few_pieces text, length-map (without_empty_last (pieces text)) pair_of)
