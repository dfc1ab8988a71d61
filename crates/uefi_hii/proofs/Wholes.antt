-- The results of all groups of a text, one after another, and of the first.
use Rattle.std.proofs.Common.{◌≡◌, ◌≢◌, ℕ, List, [], ◌∷◌, ◌++◌, map, refl, sym, ◌∙◌, ap, subst, append_assoc}
use Rattle.std.proofs.Common.{inl, inr}
use Rattle.std.proofs.lemmas.List.{append-nil, map-append, same_from_push}
use Rattle.std.proofs.lemmas.List.Concat.{flat_map-append}
use Rattle.std.proofs.lemmas.List.Elements.{All-nil, All-push, All-same}
use Rattle.std.specs.List.{All}
use Rattle.std.specs.Prelude.{Some, Result, Ok, Err, ⊤}
use Rattle.uefi_hii.specs.declared.configuration.ConfigurationString.{ConfigurationString}
use Rattle.uefi_hii.specs.declared.error.ConfigHdrSection.{ConfigHdrSection}
use Rattle.uefi_hii.specs.declared.error.ConfigHdrSection.TheVariants.{Guid}
use Rattle.uefi_hii.specs.declared.error.ParseError.{ParseError}
use Rattle.uefi_hii.specs.declared.error.ParseError.TheVariants.{BlockConfig, BlockName, ConfigHdr, Memory}
use Rattle.uefi_hii.specs.Pairs.{Pair, pairs}
use Rattle.uefi_hii.specs.Configuration.{Configuration, guid_in}
use Rattle.uefi_hii.specs.Slots.{GuidSlot, IsGood}
use Rattle.uefi_hii.specs.Group.{FailsAt, Gives, Group}
use Rattle.uefi_hii.specs.Cut.{AreGroups, Cut, Part, first_pair, pairs_of, results_of}
use Rattle.uefi_hii.specs.Views.{result_of}
use Rattle.uefi_hii.specs.Reading.{AreResults, IsFirstResult, MayRunOut, TakesGroup}
use Rattle.uefi_hii.proofs.Complete.{some_of, wrong_pair}
use Rattle.uefi_hii.proofs.Machine.{AfterGuid, Fail, Next, Start, expect, step, steps}
use Rattle.uefi_hii.proofs.Shapes.{spells_good}
use Rattle.uefi_hii.proofs.Cuts.{cut_once, group_some, has_one_cut, one_group, part}

-- Groups with these pairs behind the last.
abbrev pub AreGroupsBefore : List Part → List Pair → Type 0
AreGroupsBefore [] left = ⊤
AreGroupsBefore (e ∷ es) left = Group e.group (first_pair (pairs_of es ++ left)) e.result × AreGroupsBefore es left

-- The pairs of parts and one more, and what is left behind it.
pairs_of-push : (es : List Part) (g left : List Pair) (r : Result Configuration ParseError)
    → pairs_of (es ++ part g r ∷ []) ++ left ≡ pairs_of es ++ (g ++ left)
pairs_of-push es g left r =
    rw (flat_map-append (λ z. z.group) es (part g r ∷ []), append-nil g, append_assoc (pairs_of es) g left)

groups_push : (es : List Part) (g left : List Pair) (r : Result Configuration ParseError)
    → AreGroupsBefore es (g ++ left) → Group g (first_pair left) r → AreGroupsBefore (es ++ part g r ∷ []) left
groups_push [] g left r a h = (h, tt)
groups_push (e ∷ es) g left r a h = (rw (pairs_of-push es g left r) a.0, groups_push es g left r a.1 h)

-- Where no pair is left, they are all groups.
groups_end : (es : List Part) → AreGroupsBefore es [] → AreGroups es
groups_end [] a = tt
groups_end (e ∷ es) a = (rw append-nil at a.0, groups_end es a.1)

-- The items so far are the results of the first groups of the pairs, and these pairs are left.
pub record HasCut {A : Type 0} (all left : List Pair)
    (items : List (Result (ConfigurationString A) ParseError)) : Type 0 where
  pub parts : List Part
  pub whole : all ≡ pairs_of parts ++ left
  pub each : AreGroupsBefore parts left
  pub results : map result_of items ≡ results_of parts
  pub no_memory : All (λ item. item ≢ Err Memory) items

-- Before the first group all pairs are left.
pub cut_none : {A : Type 0} (all left : List Pair)
    (items : List (Result (ConfigurationString A) ParseError)) → left ≡ all → items ≡ []
    → HasCut all left items
cut_none all left items nothing_cut none = record {
  parts = [];
  whole = sym nothing_cut;
  each = tt;
  results = ap (map result_of) none;
  no_memory = All-same (λ x. x ≢ Err Memory) items [] none (All-nil (λ x. x ≢ Err Memory));
}

-- A group that was taken, unless memory ran out.
pub taken : {A : Type 0} (before after : List Pair) (r : Result (ConfigurationString A) ParseError) → r ≢ Err Memory
    → TakesGroup before r after
    → (g : List Pair) × (before ≡ g ++ after) × Group g (first_pair after) (result_of r)
taken before after (Ok c) some t = t
taken before after (Err (ConfigHdr s)) some t = t
taken before after (Err BlockName) some t = t
taken before after (Err BlockConfig) some t = t
taken before after (Err Memory) some t = absurd (some refl)

pub cut_more : {A : Type 0} (all left after : List Pair)
    (items : List (Result (ConfigurationString A) ParseError)) (item : Result (ConfigurationString A) ParseError)
    → HasCut all left items → item ≢ Err Memory → TakesGroup left item after → HasCut all after (items ++ item ∷ [])
cut_more all left after items item c some t =
    let g = taken left after item some t in
    let r = result_of item in
    record {
      parts = c.parts ++ part g.0 r ∷ [];
      whole = c.whole ∙ ap (λ x. pairs_of c.parts ++ x) g.1 ∙ sym (pairs_of-push c.parts g.0 after r);
      each = groups_push c.parts g.0 after r (subst (AreGroupsBefore c.parts) g.1 c.each) g.2;
      results = map-append result_of items (item ∷ []) ∙ ap (λ x. x ++ r ∷ []) c.results
          ∙ sym (map-append (λ e. e.result) c.parts (part g.0 r ∷ []));
      no_memory = All-push (λ x. x ≢ Err Memory) items item c.no_memory some;
    }

-- Where no pair is left, they are the results of groups that together are all pairs.
pub all_groups : {A : Type 0} (all left : List Pair) (items : List (Result (ConfigurationString A) ParseError))
    → HasCut all left items → left ≡ []
    → (parts : List Part) × (pairs_of parts ≡ all) × AreGroups parts × (map result_of items ≡ results_of parts)
all_groups all left items c e = (
  c.parts,
  sym (rw (e, append-nil) at c.whole),
  groups_end c.parts (subst (AreGroupsBefore c.parts) e c.each),
  c.results,
)

-- So they are the results of the text's cut, and of no other.
pub cut_all : {A : Type 0} (text : List ℕ) (left : List Pair) (items : List (Result (ConfigurationString A) ParseError))
    → HasCut (pairs text) left items → left ≡ [] → AreResults text items
cut_all text left items c e =
    let found = all_groups (pairs text) left items c e in
    (found.0, record { whole = found.1; each = found.2 }, found.3)

pub cut_only : {A : Type 0} (text : List ℕ) (items : List (Result (ConfigurationString A) ParseError))
    → AreResults text items → (parts : List Part) → Cut text parts → map result_of items ≡ results_of parts
cut_only text items h parts c = h.2 ∙ ap results_of (cut_once h.0 parts (h.1.whole ∙ sym c.whole) h.1.each c.each)

-- The group that was taken first is the first of the cut.
first_same : {A : Type 0} (text : List ℕ) (after : List Pair) (r : Result (ConfigurationString A) ParseError) (e : Part)
    (parts : List Part) → pairs text ≢ []
    → r ≢ Err Memory → TakesGroup (pairs text) r after → Cut text (e ∷ parts) → result_of r ≡ e.result
first_same text after r e parts some kept t c =
    let g = taken (pairs text) after r kept t in
    let one = one_group (pairs text) some in
    (one.no_other g.0 (result_of r) (after, g.1, g.2)).1
    ∙ sym (one.no_other e.group e.result (pairs_of parts, sym c.whole, c.each.0)).1

-- A pair that is good for the GUID, and that another follows, is no group.
good_alone : (q n : Pair) (rest : List Pair) (r : Result Configuration ParseError) → IsGood GuidSlot q
    → Gives (q ∷ []) (first_pair (n ∷ rest)) r → ⊥
unfolding steps step expect
good_alone q n rest (Ok c) good gives = spells_good (q ∷ []) (q ∷ []) [] c gives.0 refl
good_alone q n rest (Err error) good gives = by_slot gives.2
  where
    by_slot : FailsAt gives.0 (q ∷ []) (Some n) → ⊥
    by_slot (inl m) =
        let first = same_from_push [] m.0 q m.1 m.2 in
        let wrong = wrong_pair gives.0 [] q (rw (first.0, first.1) m.3) (rw first.1 m.4) in
        let guid = some_of (guid_in q) good in
        let read : step Start q ≡ Next (AfterGuid guid.0) = ap (expect GuidSlot AfterGuid) guid.1 in
        let start : wrong.0 ≡ Start = cc wrong.1 in
        let failed : step Start q ≡ Fail gives.0 = rw start at wrong.2 in
        cc (read, failed)
    by_slot (inr none) = cc

-- Pairs that begin with a good GUID and a pair for the name have both in their first group.
first_good : (text : List ℕ) (e : Part) (parts : List Part) → MayRunOut (pairs text) → Cut text (e ∷ parts)
    → MayRunOut e.group
first_good text e parts m c = by_group e.group c.each.0 (pairs_of parts) refl (subst MayRunOut (sym c.whole) m)
  where
    by_group : (g : List Pair) → Group g (first_pair (pairs_of parts)) e.result → (others : List Pair)
        → pairs_of parts ≡ others → MayRunOut (g ++ others) → MayRunOut g
    by_group [] group others is x = absurd (group.not_empty refl)
    by_group (q ∷ []) group [] is x = x
    by_group (q ∷ []) group (n ∷ others) is x =
        absurd (good_alone q n others e.result x.0
        (subst (λ ps. Gives (q ∷ []) (first_pair ps) e.result) is group.gives))
    by_group (q ∷ n ∷ g) group others is x = x

-- No error of a text is out of memory.
header_kept : (A : Type 0) (s : ConfigHdrSection)
    → ◌≢◌ {A = Result (ConfigurationString A) ParseError} (Err (ConfigHdr s)) (Err Memory)
header_kept A s e = cc

name_kept : (A : Type 0) → ◌≢◌ {A = Result (ConfigurationString A) ParseError} (Err BlockName) (Err Memory)
name_kept A e = cc

value_kept : (A : Type 0) → ◌≢◌ {A = Result (ConfigurationString A) ParseError} (Err BlockConfig) (Err Memory)
value_kept A e = cc

pub is_first : {A : Type 0} (text : List ℕ) (after : List Pair) (r : Result (ConfigurationString A) ParseError)
    → pairs text ≢ [] → TakesGroup (pairs text) r after
    → (parts : List Part) → Cut text parts → IsFirstResult parts r
is_first text after r some t [] c = absurd (some (sym c.whole))
is_first text after (Err Memory) some t (e ∷ parts) c = first_good text e parts t c
is_first text after (Ok x) some t (e ∷ parts) c = first_same text after (Ok x) e parts some (λ ok. cc) t c
is_first {A} text after (Err (ConfigHdr s)) some t (e ∷ parts) c =
    first_same text after (Err (ConfigHdr s)) e parts some (header_kept A s) t c
is_first {A} text after (Err BlockName) some t (e ∷ parts) c =
    first_same text after (Err BlockName) e parts some (name_kept A) t c
is_first {A} text after (Err BlockConfig) some t (e ∷ parts) c =
    first_same text after (Err BlockConfig) e parts some (value_kept A) t c

-- Where a text has no pairs, its cut has no parts.
pub none_first : (A : Type 0) (text : List ℕ) → pairs text ≡ [] → (parts : List Part) → Cut text parts
    → IsFirstResult {A = A} parts (Err (ConfigHdr Guid))
none_first A text none [] c = refl
none_first A text none (e ∷ parts) c = absurd (group_some e.group (pairs_of parts) _ e.result c.each.0 (c.whole ∙ none))

-- What every cut of a text has as its first result, its one cut has.
pub of_the_cut : {A : Type 0} (text : List ℕ) (r : Result (ConfigurationString A) ParseError)
    → ((parts : List Part) → Cut text parts → IsFirstResult parts r)
    → (parts : List Part) × Cut text parts × IsFirstResult parts r
of_the_cut text r every = let one = has_one_cut text in (one.parts, one.cut, every one.parts one.cut)

-- What the reader of a text's first configuration asks for.
pub ruleset first_steps = (none_first, is_first, of_the_cut)
