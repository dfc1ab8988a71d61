-- Reading the groups of an IPv6 address.
use Rattle.std.proofs.Common.{◌≡◌, ◌≤◌, ◌<◌, ◌+◌, ◌==◌, ◌&&◌, ℕ, suc, Bool, true, false, not, cond, nat_le, nat_lt, List, [], ◌∷◌, ◌++◌, length, take, drop, get_or, refl, arith, sym, ap, ◌∙◌, subst, append_assoc, append-nil, length-append, Option, Some, None, inl, inr}
use Rattle.std.specs.Borrow.{Bor}
use Rattle.std.specs.List.{list_all}
use Rattle.std.specs.Option.{option_map}
use Rattle.std.specs.Prelude.{is_some}
use Rattle.std.specs.Str.Parse.{AllDigits, digits_value}
use Rattle.std.specs.Char.{is_digit, digit_value}
use Rattle.std.proofs.lemmas.Bool.{cases_Bool, and_parts, and_from, and_left, and_right, cond-true, cond-false, false_from_ne_true, ltb-true, leb-true, le-leb, leb-false, lt-leb, lt-ltb, eqb-true, eq-eqb, ne_eqb}
use Rattle.std.proofs.lemmas.Option.{none-some, same_Some}
use Rattle.std.proofs.lemmas.List.{length-map, drop_more, drop_all, get_or-drop}
use Rattle.uefi_path_text.specs.parse.Parts.{given, is_numeral, numeral, cut_at}
use Rattle.uefi_path_text.specs.parse.Ipv4.{is_ipv4, ipv4_bytes}
use Rattle.uefi_path_text.specs.parse.Ipv6.{is_group, group_bytes, is_ipv4_end, followed, groups_in, side_in, sixteen_bytes, with_gap, around, gap_in}
use Rattle.uefi_path_text.specs.parse.Values.{below}
use Rattle.uefi_path_text.specs.private.FromText.{IsCut, rest_parts, rest_length, first_text}
use Rattle.uefi_path_text.specs.private.Ipv6.{IsSide, IsNoSide}
use Rattle.uefi_path_text.specs.declared.parse.ipv6.Side.{Side}
use Rattle.uefi_path_text.proofs.arguments.Addresses.{some_part}

-- Bytes that are followed by others.
followed_none : (bytes : List ℕ) (more : Option (List ℕ)) → more ≡ None → followed bytes more ≡ None
followed_none bytes more none = ap (followed bytes) none

followed_by_none : (more : Option (List ℕ)) → followed [] more ≡ more
followed_by_none None = refl
followed_by_none (Some others) = refl

followed_twice : (bytes next : List ℕ) (more : Option (List ℕ))
    → followed bytes (followed next more) ≡ followed (bytes ++ next) more
followed_twice bytes next None = refl
followed_twice bytes next (Some others) = ap Some (sym (append_assoc bytes next others))

-- What follows them, if all of it is known.
pub record IsFollowed (bytes all : List ℕ) (more : Option (List ℕ)) : Type 0 where
  pub others : List ℕ
  pub is : more ≡ Some others
  pub long : length all ≡ length bytes + length others

pub followed_parts : (bytes all : List ℕ) (more : Option (List ℕ)) → followed bytes more ≡ Some all → IsFollowed bytes all more
followed_parts bytes all None is = absurd (none-some all is)
followed_parts bytes all (Some others) is =
    let same : bytes ++ others ≡ all = same_Some (bytes ++ others) all is in
    record { others = others; is = refl; long = sym (ap length same) ∙ length-append bytes others }

-- An address has four bytes.
pub length-ipv4_bytes : (text : List ℕ) → is_ipv4 text ≡ true → length (ipv4_bytes text) ≡ 4
length-ipv4_bytes text is =
    length-map (cut_at 0x2e text) (digits_value 10) ∙ eqb-true (length (cut_at 0x2e text)) 4 (and_parts _ _ is).0

given_some : {A : Type 0} (test : Bool) (value other : A) → given test value ≡ Some other → (test ≡ true) × (value ≡ other)
given_some true value other is = (refl, same_Some value other is)
given_some false value other is = absurd (none-some other is)

-- A part that is no group can be an IPv4 address, of four bytes.
no_group : (is_end : Bool) (part : List ℕ) (parts : List (List ℕ)) → is_group part ≡ false
    → groups_in is_end (part ∷ parts) ≡ given (is_end && length parts == 0 && is_ipv4_end part) (ipv4_bytes part)
no_group is_end part parts other = cond-false (is_group part) _ _ other

pub four_bytes : (is_end : Bool) (part : List ℕ) (parts : List (List ℕ)) (bytes : List ℕ) → is_group part ≡ false
    → groups_in is_end (part ∷ parts) ≡ Some bytes → length bytes ≡ 4
four_bytes is_end part parts bytes other is =
    let some = given_some _ (ipv4_bytes part) bytes (sym (no_group is_end part parts other) ∙ is) in
    sym (ap length some.1) ∙ length-ipv4_bytes part (and_parts _ _ (and_parts _ _ some.0).1).0

pub no_end : (part : List ℕ) (parts : List (List ℕ)) → is_group part ≡ false → groups_in false (part ∷ parts) ≡ None
no_end part parts other = no_group false part parts other

-- A part has two bytes or more.
pub two_bytes : (is_end : Bool) (part : List ℕ) (parts : List (List ℕ)) (bytes : List ℕ)
    → groups_in is_end (part ∷ parts) ≡ Some bytes → 2 ≤ length bytes
two_bytes is_end part parts bytes is =
    elim (cases_Bool (is_group part)) [
      | inl group ↦
          let more = followed_parts (group_bytes part) bytes (groups_in is_end parts) (sym (cond-true (is_group part) _ _ group) ∙ is) in
          omega (arith, more.long)
      | inr other ↦ omega (arith, four_bytes is_end part parts bytes other is)
    ]

-- The same of a text, which has a part.
listed_bytes : (is_end : Bool) (parts : List (List ℕ)) (bytes : List ℕ) → 0 < length parts
    → groups_in is_end parts ≡ Some bytes → 2 ≤ length bytes
listed_bytes is_end [] bytes some is = absurd (omega (arith, some))
listed_bytes is_end (part ∷ parts) bytes some is = two_bytes is_end part parts bytes is

pub some_bytes : (is_end : Bool) (text bytes : List ℕ) → groups_in is_end (cut_at 0x3a text) ≡ Some bytes → 2 ≤ length bytes
some_bytes is_end text bytes is = listed_bytes is_end (cut_at 0x3a text) bytes (some_part 0x3a text) is

-- A text that begins with no group.
listed_end : (parts : List (List ℕ)) → 0 < length parts → is_group (first_text parts) ≡ false → groups_in false parts ≡ None
listed_end [] some other = absurd (omega (arith, some))
listed_end (part ∷ parts) some other = no_end part parts other

listed_four : (parts : List (List ℕ)) (bytes : List ℕ) → 0 < length parts → is_group (first_text parts) ≡ false
    → groups_in true parts ≡ Some bytes → length bytes ≡ 4
listed_four [] bytes some other is = absurd (omega (arith, some))
listed_four (part ∷ parts) bytes some other is = four_bytes true part parts bytes other is

-- Groups at the end of an address are also groups before the end.
pub groups_at_end : (parts : List (List ℕ)) (bytes : List ℕ) → groups_in false parts ≡ Some bytes → groups_in true parts ≡ Some bytes
groups_at_end [] bytes is = is
groups_at_end (part ∷ parts) bytes is =
    elim (cases_Bool (is_group part)) [
      | inl group ↦
          let now : followed (group_bytes part) (groups_in false parts) ≡ Some bytes = sym (cond-true (is_group part) _ _ group) ∙ is in
          let more = followed_parts (group_bytes part) bytes (groups_in false parts) now in
          cond-true (is_group part) _ _ group
          ∙ ap (followed (group_bytes part)) (groups_at_end parts more.others more.is ∙ sym more.is) ∙ now
      | inr other ↦ absurd (none-some bytes (sym (no_end part parts other) ∙ is))
    ]

-- What is read of a text: the bytes of groups, and what follows them.
abbrev pub ReadsAs : List ℕ → List ℕ → Option (Bor (List ℕ)) → Type 0
ReadsAs text done rest = (is_end : Bool) → side_in is_end text ≡ followed done (groups_in is_end (rest_parts 0x3a rest))

pub record AreGroups (text : List ℕ) (side : Side) (rest : Option (Bor (List ℕ))) (room : ℕ) : Type 0 where
  pub read : ReadsAs text (take side.len side.bytes) rest
  pub whole : IsSide side
  pub few : side.len ≤ room
  pub within : rest_length rest ≤ length text + 1

-- Nothing is read yet.
pub empty_text : (text : List ℕ) (is_end : Bool) → length text ≡ 0 → side_in is_end text ≡ Some []
empty_text text is_end none = ap (groups_in is_end) (cond-true _ [] (cut_at 0x3a text) (eq-eqb (length text) 0 none))

pub some_text : (text : List ℕ) (is_end : Bool) → (length text ≡ 0 → ⊥) → side_in is_end text ≡ groups_in is_end (cut_at 0x3a text)
some_text text is_end some = ap (groups_in is_end) (cond-false _ [] (cut_at 0x3a text) (ne_eqb (length text) 0 some))

pub nothing_read : (text : List ℕ) (side : Side) (rest : Option (Bor (List ℕ))) (room : ℕ)
    → ((is_end : Bool) → side_in is_end text ≡ groups_in is_end (rest_parts 0x3a rest)) → rest_length rest ≤ length text + 1
    → IsSide side → side.len ≡ 0 → AreGroups text side rest room
nothing_read text side rest room parts few is empty = record {
  read = λ is_end. parts is_end ∙ sym (followed_by_none (groups_in is_end (rest_parts 0x3a rest)))
      ∙ ap (λ n. followed (take n side.bytes) (groups_in is_end (rest_parts 0x3a rest))) (sym empty);
  whole = is;
  few = omega (arith, empty);
  within = few;
}

-- One more group is read.
pub one_more_group : (text done part group : List ℕ) (rest : Bor (List ℕ)) (others : Option (Bor (List ℕ)))
    → ReadsAs text done (Some rest) → IsCut 0x3a rest.now part others → is_group part ≡ true → group ≡ group_bytes part
    → ReadsAs text (done ++ group) others
one_more_group text done part group rest others read cut is bytes is_end =
    read is_end ∙ ap (λ parts. followed done (groups_in is_end parts)) cut.parts
    ∙ ap (followed done) (cond-true (is_group part) _ _ is)
    ∙ ap (λ b. followed done (followed b (groups_in is_end (rest_parts 0x3a others)))) (sym bytes)
    ∙ followed_twice done group (groups_in is_end (rest_parts 0x3a others))

pub next_groups : (text : List ℕ) (side next : Side) (part group : List ℕ) (rest : Bor (List ℕ)) (others : Option (Bor (List ℕ))) (room : ℕ)
    → AreGroups text side (Some rest) room → IsCut 0x3a rest.now part others → is_group part ≡ true → group ≡ group_bytes part
    → IsSide next → take next.len next.bytes ≡ take side.len side.bytes ++ group → next.len ≡ side.len + length group
    → side.len + 2 ≤ room → AreGroups text next others room
next_groups text side next part group rest others room so_far cut is bytes fine more len fits = record {
  read = subst (λ done. ReadsAs text done others) (sym more)
      (one_more_group text (take side.len side.bytes) part group rest others so_far.read cut is bytes);
  whole = fine;
  few = omega (arith, len, ap length bytes, fits);
  within = omega (arith, so_far.within, cut.length);
}

-- An IPv4 address that other parts follow isn't the last part.
pub not_last : (text part : List ℕ) (others : Option (Bor (List ℕ))) → IsCut 0x3a text part others
    → is_group (first_text (cut_at 0x3a text)) ≡ false → is_some others ≡ true → groups_in true (cut_at 0x3a text) ≡ None
not_last text part None cut other some = cc
not_last text part (Some rest) cut other some =
    let group : is_group part ≡ false = sym (ap (λ parts. is_group (first_text parts)) cut.parts) ∙ other in
    let more : (length (cut_at 0x3a rest.now) == 0) ≡ false =
    ne_eqb (length (cut_at 0x3a rest.now)) 0 (λ none. omega (arith, none, some_part 0x3a rest.now)) in
    ap (groups_in true) cut.parts ∙ no_group true part (cut_at 0x3a rest.now) group
    ∙ cond-false _ _ _ (and_left _ (is_ipv4_end part) more)

-- All is read.
pub all_read : (text done : List ℕ) (is_end : Bool) → ReadsAs text done None → side_in is_end text ≡ Some done
all_read text done is_end read = read is_end ∙ ap Some (append-nil done)

pub ends_read : (text done last : List ℕ) (rest : Bor (List ℕ)) → ReadsAs text done (Some rest)
    → groups_in true (cut_at 0x3a rest.now) ≡ Some last → side_in true text ≡ Some (done ++ last)
ends_read text done last rest read is = read true ∙ ap (followed done) is

-- There are more bytes than there is room for.
pub too_long : (text done : List ℕ) (rest : Bor (List ℕ)) (least room : ℕ) → ReadsAs text done (Some rest)
    → room < length done + 2 → IsNoSide text least room
too_long text done rest least room read full =
    let each : (is_end : Bool) (bytes : List ℕ) → side_in is_end text ≡ Some bytes → room < length bytes =
    λ is_end bytes is.
    let more = followed_parts done bytes (groups_in is_end (cut_at 0x3a rest.now)) (sym (read is_end) ∙ is) in
    let two : 2 ≤ length more.others = some_bytes is_end rest.now more.others more.is in
    omega (arith, more.long, two, full) in
    record { groups = each false; ends = λ bytes is enough. each true bytes is }

-- What follows the groups is no group, and no IPv4 address that can be there.
pub no_more : (text done : List ℕ) (rest : Bor (List ℕ)) (least room : ℕ) → ReadsAs text done (Some rest)
    → is_group (first_text (cut_at 0x3a rest.now)) ≡ false
    → ((least ≤ length done + 4) → (length done + 4 ≤ room) → groups_in true (cut_at 0x3a rest.now) ≡ None)
    → IsNoSide text least room
no_more text done rest least room read other none =
    let some = some_part 0x3a rest.now in
    record {
      groups = λ bytes is. absurd (none-some bytes
          (sym (followed_none done _ (listed_end (cut_at 0x3a rest.now) some other)) ∙ sym (read false) ∙ is));
      ends = λ bytes is enough.
          let more = followed_parts done bytes (groups_in true (cut_at 0x3a rest.now)) (sym (read true) ∙ is) in
          let four : length more.others ≡ 4 = listed_four (cut_at 0x3a rest.now) more.others some other more.is in
          elim (cases_Bool (nat_le (length done + 4) room)) as (λ _. room < length bytes) [
            | inl fits ↦ absurd (none-some more.others
                (sym (none (omega (arith, more.long, four, enough)) (leb-true _ room fits)) ∙ more.is))
            | inr long ↦ let past : room < length done + 4 = leb-false _ room long in omega (arith, more.long, four, past)
          ];
    }

-- An address without a `::` has sixteen bytes.
pub sixteen : (text bytes : List ℕ) → side_in true text ≡ Some bytes → length bytes ≡ 16
    → sixteen_bytes (side_in true text) ≡ Some bytes
sixteen text bytes is long =
    ap sixteen_bytes is ∙ cond-true (length bytes == 16) _ _ (eq-eqb (length bytes) 16 long)

pub not_sixteen : (text bytes : List ℕ) → side_in true text ≡ Some bytes → (length bytes ≡ 16 → ⊥)
    → sixteen_bytes (side_in true text) ≡ None
not_sixteen text bytes is other =
    ap sixteen_bytes is ∙ cond-false (length bytes == 16) _ _ (ne_eqb (length bytes) 16 other)

none_sixteen : (o : Option (List ℕ)) → ((bytes : List ℕ) → o ≡ Some bytes → length bytes ≡ 16 → ⊥) → sixteen_bytes o ≡ None
none_sixteen None other = refl
none_sixteen (Some bytes) other = cond-false (length bytes == 16) _ _ (ne_eqb (length bytes) 16 (other bytes refl))

pub no_address : (text : List ℕ) → IsNoSide text 16 16 → sixteen_bytes (side_in true text) ≡ None
no_address text none =
    none_sixteen (side_in true text) (λ bytes is long. omega (arith, none.ends bytes is (omega (arith, long)), long))

-- Groups around a `::` have at most fourteen bytes.
pub both_sides : (front back first last : List ℕ) → side_in false front ≡ Some first → side_in true back ≡ Some last
    → length first + length last ≤ 14
    → around (side_in false front) (side_in true back) ≡ Some (with_gap first last)
both_sides front back first last before after few =
    (λ i. around (before i) (after i)) ∙ cond-true _ _ _ (le-leb (length first + length last) 14 few)

none_around : (a b : Option (List ℕ))
    → ((first last : List ℕ) → a ≡ Some first → b ≡ Some last → length first + length last ≤ 14 → ⊥) → around a b ≡ None
none_around None b other = refl
none_around (Some first) None other = refl
none_around (Some first) (Some last) other =
    cond-false _ _ _ (false_from_ne_true _ (λ few. other first last refl refl (leb-true (length first + length last) 14 few)))

pub no_front : (front back : List ℕ) → IsNoSide front 16 16 → around (side_in false front) (side_in true back) ≡ None
no_front front back none =
    none_around (side_in false front) (side_in true back) (λ first last is _ few.
    omega (arith, none.groups first is, few))

pub long_front : (front back bytes : List ℕ) → side_in true front ≡ Some bytes → 14 < length bytes
    → around (side_in false front) (side_in true back) ≡ None
long_front front back bytes is long =
    none_around (side_in false front) (side_in true back) (λ first last before _ few.
    let same : first ≡ bytes = same_Some first bytes (sym (groups_at_end (cond (length front == 0) [] (cut_at 0x3a front)) first before) ∙ is) in
    omega (arith, ap length same, few, long))

pub no_back : (front back bytes : List ℕ) (room : ℕ) → side_in false front ≡ Some bytes → length bytes + room ≡ 14
    → IsNoSide back 0 room → around (side_in false front) (side_in true back) ≡ None
no_back front back bytes room is sum none =
    none_around (side_in false front) (side_in true back) (λ first last before after few.
    let same : first ≡ bytes = same_Some first bytes (sym before ∙ is) in
    omega (arith, ap length same, few, sum, none.ends last after (omega arith)))

-- There is no `::` before an offset.
abbrev pub HasGapFrom : List ℕ → ℕ → Type 0
HasGapFrom text offset = gap_in text ≡ option_map (λ gap. offset + gap) (gap_in (drop offset text))

same_gap : (o : Option ℕ) → o ≡ option_map (λ gap. 0 + gap) o
same_gap None = refl
same_gap (Some gap) = let e : gap ≡ 0 + gap = omega arith in ap Some e

pub gap_from_start : (text : List ℕ) → HasGapFrom text 0
gap_from_start text = same_gap (gap_in text)

next_gap : (offset : ℕ) (o : Option ℕ)
    → option_map (λ gap. offset + gap) (option_map suc o) ≡ option_map (λ gap. offset + 1 + gap) o
next_gap offset None = refl
next_gap offset (Some gap) = let e : offset + suc gap ≡ offset + 1 + gap = omega arith in ap Some e

-- The two characters at the offset are the first ones from there on.
gap_at : (text : List ℕ) (offset : ℕ) → offset < length text
    → gap_in (drop offset text)
    ≡ cond (get_or text offset 0 == 0x3a && get_or text (offset + 1) 0 == 0x3a) (Some 0) (option_map suc (gap_in (drop (offset + 1) text)))
gap_at text offset within =
    let place : offset + 1 + 0 ≡ offset + 1 = omega arith in
    ap gap_in (drop_more text offset 0 within)
    ∙ ap (λ c. cond (get_or text offset 0 == 0x3a && c == 0x3a) (Some 0) (option_map suc (gap_in (drop (offset + 1) text))))
    (get_or-drop (offset + 1) text 0 0 ∙ ap (λ k. get_or text k 0) place)

pub gap_here : (text : List ℕ) (offset : ℕ) → offset < length text → HasGapFrom text offset
    → (get_or text offset 0 == 0x3a && get_or text (offset + 1) 0 == 0x3a) ≡ true → gap_in text ≡ Some offset
gap_here text offset within so_far is =
    let place : offset + 0 ≡ offset = omega arith in
    so_far ∙ ap (option_map (λ gap. offset + gap)) (gap_at text offset within ∙ cond-true _ _ _ is) ∙ ap Some place

pub gap_later : (text : List ℕ) (offset : ℕ) → offset < length text → HasGapFrom text offset
    → (get_or text offset 0 == 0x3a && get_or text (offset + 1) 0 == 0x3a) ≡ false → HasGapFrom text (offset + 1)
gap_later text offset within so_far other =
    so_far ∙ ap (option_map (λ gap. offset + gap)) (gap_at text offset within ∙ cond-false _ _ _ other)
    ∙ next_gap offset (gap_in (drop (offset + 1) text))

pub no_gap : (text : List ℕ) (offset : ℕ) → length text ≤ offset → HasGapFrom text offset → gap_in text ≡ None
no_gap text offset past so_far =
    so_far ∙ ap (λ rest. option_map (λ gap. offset + gap) (gap_in rest)) (drop_all offset text past)

-- A group is a number of two bytes.
all_digits : (radix : ℕ) (text : List ℕ) → list_all (λ c. is_digit c radix) text ≡ true → AllDigits radix text
all_digits radix [] all = tt
all_digits radix (c ∷ text) all =
    let parts = and_parts (is_digit c radix) (list_all (λ c. is_digit c radix) text) all in
    (ltb-true (digit_value c) radix parts.0, all_digits radix text parts.1)

small_number : (part : List ℕ) → AllDigits 16 part → length part ≤ 4 → digits_value 16 part < 65536
small_number [] each few = omega arith
small_number (a ∷ []) each few = omega (arith, each.0)
small_number (a ∷ b ∷ []) each few = omega (arith, each.0, each.1.0)
small_number (a ∷ b ∷ c ∷ []) each few = omega (arith, each.0, each.1.0, each.1.1.0)
small_number (a ∷ b ∷ c ∷ d ∷ []) each few = omega (arith, each.0, each.1.0, each.1.1.0, each.1.1.1.0)
small_number (a ∷ b ∷ c ∷ d ∷ e ∷ part) each few = absurd (omega (arith, few))

below_some : (limit : ℕ) (test : Bool) (value number : ℕ) → below limit (given test value) ≡ Some number → (test ≡ true) × (value ≡ number)
below_some limit true value number is = (refl, (given_some (nat_lt value limit) value number is).1)
below_some limit false value number is = absurd (none-some number is)

pub record IsGroup (part : List ℕ) (number : ℕ) : Type 0 where
  pub is : is_group part ≡ true
  pub value : digits_value 16 part ≡ number

pub group_read : (part : List ℕ) (number : ℕ) → below 65536 (numeral 16 part) ≡ Some number → length part ≤ 4 → IsGroup part number
group_read part number read few =
    let some = below_some 65536 (is_numeral 16 part) (digits_value 16 part) number read in
    record { is = and_from _ _ some.0 (le-leb (length part) 4 few); value = some.1 }

pub no_number : (part : List ℕ) → below 65536 (numeral 16 part) ≡ None → is_group part ≡ false
no_number part none = false_from_ne_true (is_group part) (λ is.
    let parts = and_parts (is_numeral 16 part) (nat_le (length part) 4) is in
    let digits = (and_parts (not (length part == 0)) (list_all (λ c. is_digit c 16) part) parts.0).1 in
    let small : digits_value 16 part < 65536 = small_number part (all_digits 16 part digits) (leb-true (length part) 4 parts.1) in
    let some : below 65536 (numeral 16 part) ≡ Some (digits_value 16 part) =
    ap (λ test. below 65536 (given test (digits_value 16 part))) parts.0
    ∙ cond-true (nat_lt (digits_value 16 part) 65536) _ _ (lt-ltb (digits_value 16 part) 65536 small) in
    none-some (digits_value 16 part) (sym none ∙ some))

pub long_part : (part : List ℕ) → 4 < length part → is_group part ≡ false
long_part part long = and_right _ _ (lt-leb (length part) 4 long)
