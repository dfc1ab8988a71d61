-- The listing of configurations, one item after another.
use Rattle.std.proofs.Common.{◌≡◌, ◌≢◌, ℕ, ◌+◌, ◌≤◌, List, [], ◌∷◌, ◌++◌, length, refl, sym, ◌∙◌, ap, arith}
use Rattle.std.proofs.Common.{append_assoc}
use Rattle.std.specs.Prelude.{Result, Ok, Err, codes, flat_map}
use Rattle.std.specs.Fmt.{decimal}
use Rattle.std.proofs.lemmas.List.{append-nil, flat_map_more, length-append, length-map}
use Rattle.std.proofs.lemmas.List.Folds.{flat_map-map}
use Rattle.uefi_hii.specs.declared.configuration.ConfigurationString.{ConfigurationString}
use Rattle.uefi_hii.specs.declared.error.ParseError.{ParseError}
use Rattle.uefi_hii.specs.declared.error.ParseError.TheVariants.{ConfigHdr, BlockName, BlockConfig, Memory}
use Rattle.uefi_hii.specs.Pairs.{Pair}
use Rattle.uefi_hii.specs.Cut.{Part, AreGroups, pairs_of, results_of}
use Rattle.uefi_hii.specs.Reading.{TakesGroup}
use Rattle.uefi_hii.specs.Views.{result_of}
use Rattle.uefi_hii.proofs.Wholes.{HasCut, all_groups, cut_more, cut_none}
use Rattle.uefi_listing.specs.Config.{result_lines, configuration_lines, fault_line, header_lines, item_lines}

-- The lines of the first n groups of pairs were appended, and these pairs are left.
pub record HasListed (A : Type 0) (all left : List Pair) (old now : List ℕ) (n : ℕ) : Type 0 where
  pub items : List (Result (ConfigurationString A) ParseError)
  pub cut : HasCut all left items
  pub lines : now ≡ old ++ flat_map (λ item. item_lines (result_of item)) items
  pub count : n ≡ length items
  pub few : n ≤ length now

-- An item has a line.
some_lines : {A : Type 0} (item : Result (ConfigurationString A) ParseError) → item ≢ Err Memory
    → 1 ≤ length (item_lines (result_of item))
unfolding configuration_lines header_lines fault_line
some_lines (Ok c) some = omega arith
some_lines (Err (ConfigHdr part)) some = omega arith
some_lines (Err BlockName) some = omega arith
some_lines (Err BlockConfig) some = omega arith
some_lines (Err Memory) some = absurd (some refl)

-- Those of the next group too.
pub listed_more : {A : Type 0} {all left after : List Pair} {old now next : List ℕ} {count : ℕ}
    {item : Result (ConfigurationString A) ParseError}
    → HasListed A all left old now count → item ≢ Err Memory → TakesGroup left item after
    → next ≡ now ++ item_lines (result_of item) → HasListed A all after old next (count + 1)
listed_more {A} {all} {left} {after} {old} {now} {next} {count} {item} so_far some taken is =
    let items = so_far.items in
    record {
      items = items ++ item ∷ [];
      cut = cut_more all left after items item so_far.cut some taken;
      lines = is ∙ ap (λ t. t ++ item_lines (result_of item)) so_far.lines
          ∙ flat_map_more (λ item. item_lines (result_of item)) old items item;
      count = omega (arith, so_far.count, length-append items (item ∷ []));
      few = omega (
        arith,
        so_far.few,
        ap length is,
        length-append now (item_lines (result_of item)),
        some_lines item some,
      );
    }

-- Nothing was appended yet.
pub none_listed : {A : Type 0} (all : List Pair) (old : List ℕ) → HasListed A all all old old 0
none_listed all old = record {
  items = [];
  cut = cut_none all all [] refl refl;
  lines = sym (append-nil old);
  count = refl;
  few = omega arith;
}

-- If no pair is left, the lines are those of all groups; their count comes last.
pub listed_all : {A : Type 0} {all left : List Pair} {old now new : List ℕ} {count : ℕ}
    → HasListed A all left old now count → left ≡ []
    → new ≡ now ++ (codes "items " ++ decimal count ++ codes "\n")
    → (parts : List Part) × (pairs_of parts ≡ all) × AreGroups parts
    × (new ≡ old ++ result_lines (results_of parts))
listed_all {A} {all} {left} {old} {now} {new} {count} so_far none is =
    let items = so_far.items in
    let found = all_groups all left items so_far.cut none in
    let lines = sym (flat_map-map item_lines result_of items) ∙ ap (flat_map item_lines) found.3 in
    let counted = so_far.count ∙ sym (length-map items result_of) ∙ ap length found.3 in
    (found.0, found.1, found.2, simp append_assoc (simp append_assoc at (rw (so_far.lines, lines, counted) at is)))
