-- Configurations that are read one after another, and the first element that fits.
use Rattle.std.proofs.Common.{◌≡◌, ◌≢◌, ℕ, ◌+◌, ◌≤◌, Bool, true, false, not, cond, List, [], ◌∷◌, ◌++◌, length, map}
use Rattle.std.proofs.Common.{refl, sym, ◌∙◌, ap, subst, arith, append_assoc}
use Rattle.std.proofs.lemmas.List.{append-nil, length-append, map-append}
use Rattle.std.proofs.lemmas.List.Elements.{All-cons, All-head, All-nil, All-same, All-tail}
use Rattle.std.specs.Prelude.{◌==◌, ◌&&◌, if◌then◌else◌, Option, Some, None, MatchOption, Result, Ok, Err, option_map}
use Rattle.std.specs.Prelude.{filter, is_ok, is_err}
use Rattle.std.specs.List.{All, find}
use Rattle.uefi_hii.specs.declared.configuration.ConfigurationString.{ConfigurationString}
use Rattle.uefi_hii.specs.declared.configuration.ConfigurationStringElement.{ConfigurationStringElement}
use Rattle.uefi_hii.specs.declared.multi.MultiConfigurationStringIter.{MultiConfigurationStringIter}
use Rattle.uefi_hii.specs.declared.error.ParseError.{ParseError}
use Rattle.uefi_hii.specs.declared.error.ParseError.TheVariants.{Memory}
use Rattle.uefi_hii.specs.Pairs.{Pair, pairs}
use Rattle.uefi_hii.specs.Configuration.{Configuration}
use Rattle.uefi_hii.specs.Group.{Group}
use Rattle.uefi_hii.specs.Cut.{AreGroups, Cut, Part, first_pair, pairs_of, results_of}
use Rattle.uefi_hii.specs.Laws.{OneGroup}
use Rattle.uefi_hii.specs.Reading.{AreResults, TakesGroup, YieldsGroup}
use Rattle.uefi_hii.specs.Views.{element_of, result_of, uncut_pairs}
use Rattle.uefi_hii.proofs.Wholes.{taken}
use Rattle.uefi_examples.specs.Configurations.{AreCounts, IsOnlyResult}

-- Groups of a text were read, and these pairs are left: their groups and those to come are a cut.
pub record HasRead (text : List ℕ) (left : List Pair) (read : List Part) : Type 0 where
  pub joins : (rest : List Part) → pairs_of rest ≡ left → AreGroups rest → Cut text (read ++ rest)

-- The part that a group and its result are.
abbrev part : List Pair → Result Configuration ParseError → Part
part group result = record { group = group; result = result }

-- What holds of each item of a list with one more at its end holds of each before it, and of that one.
all_and_last : {X : Type 0} (P : X → Type 0) (items : List X) (last : X) → All P (items ++ last ∷ [])
    → All P items × P last
all_and_last P [] last each = (All-nil P, All-head P last [] each)
all_and_last P (item ∷ items) last each =
    let rest = all_and_last P items last (All-tail P item (items ++ last ∷ []) each) in
    (All-cons P item items (All-head P item (items ++ last ∷ []) each) rest.0, rest.1)

-- With the group of one more step it was read up to the pairs after that group.
read_more : (text : List ℕ) (left after group : List Pair) (read : List Part) (result : Result Configuration ParseError)
    → HasRead text left read → left ≡ group ++ after → Group group (first_pair after) result
    → HasRead text after (read ++ part group result ∷ [])
read_more text left after group read result so_far is is_group = record {
  joins = λ rest whole each.
      subst (Cut text) (sym (append_assoc read (part group result ∷ []) rest))
      (so_far.joins (part group result ∷ rest) (ap (λ ps. group ++ ps) whole ∙ sym is)
      (subst (λ ps. Group group (first_pair ps) result) (sym whole) is_group, each));
}

-- If no pair is left, what was read is the cut.
pub read_all : (text : List ℕ) (left : List Pair) (read : List Part) → HasRead text left read → left ≡ []
    → Cut text read
read_all text left read so_far none = subst (Cut text) (append-nil read) (so_far.joins [] (sym none) tt)

-- The items are the results of groups that were read of a text of which these pairs are left.
pub record HasItems {A : Type 0} (text : List ℕ) (left : List Pair)
    (items : List (Result (ConfigurationString A) ParseError)) : Type 0 where
  pub read : List Part
  pub so_far : HasRead text left read
  pub results : map result_of items ≡ results_of read

-- No item says that memory ran out.
abbrev pub HaveNoMemory : {A : Type 0} → List (Result (ConfigurationString A) ParseError) → Type 0
HaveNoMemory items = All (λ item. item ≢ Err Memory) items

-- Before the first step all pairs are left.
pub no_items : {A : Type 0} (text : List ℕ) (left : List Pair)
    (items : List (Result (ConfigurationString A) ParseError)) → left ≡ pairs text → items ≡ []
    → HasItems text left items
no_items text left items all none = record {
  read = [];
  so_far = record { joins = λ rest whole each. record { whole = whole ∙ all; each = each } };
  results = ap (map result_of) none;
}

-- A step adds the result of one more group, unless memory runs out.
pub items_more : {A : Type 0} (text : List ℕ) (left after : List Pair)
    (items more : List (Result (ConfigurationString A) ParseError)) (item : Result (ConfigurationString A) ParseError)
    → (HaveNoMemory items → HasItems text left items) → TakesGroup left item after → more ≡ items ++ item ∷ []
    → HaveNoMemory more → HasItems text after more
items_more text left after items more item so_far step pushed some =
    let each = all_and_last (λ x. x ≢ Err Memory) items item
    (All-same (λ x. x ≢ Err Memory) (items ++ item ∷ []) more (sym pushed) some) in
    let before = so_far each.0 in
    let group = taken left after item each.1 step in
    record {
      read = before.read ++ part group.0 (result_of item) ∷ [];
      so_far = read_more text left after group.0 before.read (result_of item) before.so_far group.1 group.2;
      results =
          ap (map result_of) pushed ∙ map-append result_of items (item ∷ [])
          ∙ ap (λ rs. rs ++ result_of item ∷ []) before.results
          ∙ sym (map-append (λ e. e.result) before.read (part group.0 (result_of item) ∷ []));
    }

-- If no pair is left, the items are the results of the cut.
pub items_all : {A : Type 0} (text : List ℕ) (left : List Pair)
    (items : List (Result (ConfigurationString A) ParseError)) → HasItems text left items → left ≡ []
    → AreResults text items
items_all text left items so_far none = (so_far.read, read_all text left so_far.read so_far.so_far none, so_far.results)

-- The item of a step is the result of each group that the pairs begin with.
pub one_item : {A : Type 0} (ps : List Pair) (old new : MultiConfigurationStringIter A)
    (item : Option (Result (ConfigurationString A) ParseError))
    → OneGroup → uncut_pairs old ≡ ps → YieldsGroup old item new → MatchOption item (ps ≡ []) (IsOnlyResult ps)
one_item {A} ps old new item one all step =
    subst (λ qs. MatchOption item (qs ≡ []) (IsOnlyResult qs)) all (by_item item step)
  where
    by_item : (item : Option (Result (ConfigurationString A) ParseError)) → YieldsGroup old item new
        → MatchOption item (uncut_pairs old ≡ []) (IsOnlyResult (uncut_pairs old))
    by_item None step = step.0
    by_item (Some item) step = λ some group result begins.
        let first = taken (uncut_pairs old) (uncut_pairs new) item some step.1 in
        let only = one (uncut_pairs old) step.0 in
        (only.no_other first.0 (result_of item) (uncut_pairs new, first.1, first.2)).1
        ∙ sym (only.no_other group result begins).1

-- The bytes of the first of the elements that has this offset and this width.
abbrev pub found_in : {A : Type 0} → ℕ → ℕ → List (ConfigurationStringElement A) → Option (List ℕ)
found_in offset width items = option_map (λ e. e.value)
    (find (λ e. e.offset == offset && e.width == width) (map element_of items))

-- The configurations and the errors among the results that were read are counted, of a text of which these pairs are
-- left.
pub record HasCounted (text : List ℕ) (left : List Pair) (configurations errors : ℕ) : Type 0 where
  pub read : List Part
  pub so_far : HasRead text left read
  pub counts : AreCounts (configurations, errors) (results_of read)

-- A list with one more result has one more that passes the test, if that does.
count_push : (test : Result Configuration ParseError → Bool) (read : List Part) (group : List Pair)
    (result : Result Configuration ParseError)
    → length (filter test (results_of (read ++ part group result ∷ [])))
    ≡ length (filter test (results_of read)) + (if test result then 1 else 0)
count_push test [] group result = by_test (test result)
  where
    by_test : (t : Bool) → length (cond t (result ∷ []) []) ≡ 0 + (if t then 1 else 0)
    by_test true = refl
    by_test false = refl
count_push test (one ∷ read) group result = by_test (test one.result) (count_push test read group result)
  where
    by_test : (t : Bool) → length (filter test (results_of (read ++ part group result ∷ [])))
        ≡ length (filter test (results_of read)) + (if test result then 1 else 0)
        → length (cond t (one.result ∷ filter test (results_of (read ++ part group result ∷ [])))
        (filter test (results_of (read ++ part group result ∷ []))))
        ≡ length (cond t (one.result ∷ filter test (results_of read))
        (filter test (results_of read))) + (if test result then 1 else 0)
    by_test true more = omega (arith, more)
    by_test false more = more

-- What an item is, its result is.
same_kind : {A : Type 0} (item : Result (ConfigurationString A) ParseError) (found : Bool) → found ≡ is_ok item
    → (is_ok (result_of item) ≡ found) × (is_err (result_of item) ≡ not found)
same_kind (Ok c) found is = (sym is, ap not (sym is))
same_kind (Err error) found is = (sym is, ap not (sym is))

-- A group that was taken leaves fewer pairs.
fewer_left : {A : Type 0} (left after : List Pair) (item : Result (ConfigurationString A) ParseError)
    → item ≢ Err Memory → TakesGroup left item after → length after + 1 ≤ length left
fewer_left left after item some step = let group =
    taken left after item some step in fewer group.0 group.2.not_empty group.1
  where
    fewer : (group : List Pair) → group ≢ [] → left ≡ group ++ after → length after + 1 ≤ length left
    fewer [] some_pair is = absurd (some_pair refl)
    fewer (pair ∷ group) some_pair is = omega (arith, ap length is, length-append group after)

-- With one more item, one more is counted.
more_counted : {A : Type 0} (text : List ℕ) (left after : List Pair) (configurations errors : ℕ)
    (item : Result (ConfigurationString A) ParseError) (found : Bool)
    → HasCounted text left configurations errors → item ≢ Err Memory → TakesGroup left item after → found ≡ is_ok item
    → HasCounted text after (configurations + (if found then 1 else 0)) (errors + (if not found then 1 else 0))
more_counted text left after configurations errors item found so_far some step is =
    let group = taken left after item some step in
    let kind = same_kind item found is in
    record {
      read = so_far.read ++ part group.0 (result_of item) ∷ [];
      so_far = read_more text left after group.0 so_far.read (result_of item) so_far.so_far group.1 group.2;
      counts = (
        ap (λ n. n + (if found then 1 else 0)) so_far.counts.0
            ∙ ap (λ t. length (filter is_ok (results_of so_far.read)) + (if t then 1 else 0)) (sym kind.0)
            ∙ sym (count_push is_ok so_far.read group.0 (result_of item)),
        ap (λ n. n + (if not found then 1 else 0)) so_far.counts.1
            ∙ ap (λ t. length (filter is_err (results_of so_far.read)) + (if t then 1 else 0)) (sym kind.1)
            ∙ sym (count_push is_err so_far.read group.0 (result_of item)),
      );
    }

-- The counts after a step, which fit since each group has a pair.
pub counted_more : {A : Type 0} (text : List ℕ) (left after : List Pair)
    (old_configurations old_errors configurations errors bound : ℕ) (item : Result (ConfigurationString A) ParseError)
    (found : Bool)
    → HasCounted text left old_configurations old_errors → item ≢ Err Memory → TakesGroup left item after
    → found ≡ is_ok item
    → configurations ≡ old_configurations + (if found then 1 else 0)
    → errors ≡ old_errors + (if not found then 1 else 0) → old_configurations + old_errors + length left ≤ bound
    → HasCounted text after configurations errors × (configurations + errors + length after ≤ bound)
counted_more text left after old_configurations old_errors configurations errors bound item found so_far some step is
    c e within = (
      subst (λ n. HasCounted text after n errors) (sym c)
          (subst (HasCounted text after (old_configurations + (if found then 1 else 0))) (sym e)
          (more_counted text left after old_configurations old_errors item found so_far some step is)),
      by_kind found c e,
    )
  where
    by_kind : (found : Bool) → configurations ≡ old_configurations + (if found then 1 else 0)
        → errors ≡ old_errors + (if not found then 1 else 0) → configurations + errors + length after ≤ bound
    by_kind true c e = omega (arith, c, e, within, fewer_left left after item some step)
    by_kind false c e = omega (arith, c, e, within, fewer_left left after item some step)
