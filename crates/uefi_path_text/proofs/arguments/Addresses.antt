-- Reading the parts of an IPv4 address.
use Rattle.std.proofs.Common.{◌≡◌, ◌≤◌, ◌<◌, ◌+◌, ℕ, true, false, eqb, List, [], ◌∷◌, length, get_or, take, drop, set, map, refl, arith, ap, sym, ◌∙◌, Option, Some, inl, inr}
use Rattle.std.specs.Borrow.{Bor}
use Rattle.std.specs.List.{list_all}
use Rattle.std.specs.Str.Parse.{digits_value}
use Rattle.std.proofs.lemmas.Bool.{cases_Bool, and_left, and_right, ne_eqb}
use Rattle.std.proofs.lemmas.List.{length-drop, length-set, drop_more, take_more_set, map_more}
use Rattle.std.proofs.lemmas.List.Folds.{list_all_more, list_all_at}
use Rattle.uefi_path_text.specs.parse.Parts.{cut_at, onto_first}
use Rattle.uefi_path_text.specs.parse.Ipv4.{is_octet, is_ipv4}
use Rattle.uefi_path_text.specs.private.FromText.{IsCut, rest_parts, rest_length}

-- A character goes onto a part.
some_first : (c : ℕ) (parts : List (List ℕ)) → 0 < length (onto_first c parts)
some_first c [] = omega arith
some_first c (part ∷ parts) = omega arith

-- A text has a part.
pub some_part : (mark : ℕ) (text : List ℕ) → 0 < length (cut_at mark text)
some_part mark [] = omega arith
some_part mark (c ∷ text) =
    elim (cases_Bool (eqb c mark)) as (λ _. 0 < length (cut_at mark (c ∷ text))) [
      | inl is ↦ rw is (omega arith)
      | inr other ↦ rw other (some_first c (cut_at mark text))
    ]

-- The parts before an index are octets, and their numbers are written; the rest is what is left.
pub record AreRead (text address : List ℕ) (rest : Option (Bor (List ℕ))) (start i : ℕ) : Type 0 where
  pub left : drop i (cut_at 0x2e text) ≡ rest_parts 0x2e rest
  pub within : i ≤ length (cut_at 0x2e text)
  pub octets : list_all is_octet (take i (cut_at 0x2e text)) ≡ true
  pub bytes : take i address ≡ map (digits_value 10) (take i (cut_at 0x2e text))
  pub place : start + rest_length rest ≡ length text + 1
  pub later : i ≤ start
  pub long : length address ≡ 4

-- The next part is the element at the index.
record IsNext (parts : List (List ℕ)) (part : List ℕ) (more : List (List ℕ)) (i : ℕ) : Type 0 where
  inside : i < length parts
  here : get_or parts i [] ≡ part
  after : drop (i + 1) parts ≡ more

next_part : (parts : List (List ℕ)) (part : List ℕ) (more : List (List ℕ)) (i : ℕ) → drop i parts ≡ part ∷ more → IsNext parts part more i
next_part parts part more i left =
    let inside : i < length parts = omega (arith, length-drop i parts, ap length left) in
    let both : get_or parts i [] ∷ drop (i + 1) parts ≡ part ∷ more = sym (drop_more parts i [] inside) ∙ left in
    record { inside = inside; here = cc; after = cc }

-- The part that is cut off is the next one.
next_of_cut : (text address part : List ℕ) (rest : Bor (List ℕ)) (others : Option (Bor (List ℕ))) (start i : ℕ) → AreRead text address (Some rest) start i → IsCut 0x2e rest.now part others → IsNext (cut_at 0x2e text) part (rest_parts 0x2e others) i
next_of_cut text address part rest others start i read cut = next_part (cut_at 0x2e text) part (rest_parts 0x2e others) i (read.left ∙ cut.parts)

-- One more part is read.
pub one_more_part : (text address part : List ℕ) (rest : Bor (List ℕ)) (others : Option (Bor (List ℕ))) (start i byte : ℕ) → i < 4 → AreRead text address (Some rest) start i → IsCut 0x2e rest.now part others → is_octet part ≡ true → byte ≡ digits_value 10 part → AreRead text (set address i byte) others (start + (length part + 1)) (i + 1)
one_more_part text address part rest others start i byte few read cut octet is =
    let room : i < length address = omega (arith, read.long) in
    let next : IsNext (cut_at 0x2e text) part (rest_parts 0x2e others) i = next_of_cut text address part rest others start i read cut in
    let inside : i < length (cut_at 0x2e text) = next.inside in
    record {
      left = next.after;
      within = omega arith;
      octets = rw (list_all_more is_octet (cut_at 0x2e text) i [] inside, read.octets, next.here) octet;
      bytes = rw (take_more_set address i byte room, map_more (digits_value 10) (cut_at 0x2e text) i [] inside, read.bytes, is, next.here) refl;
      place = omega (arith, read.place, cut.length);
      later = omega (arith, read.later);
      long = omega (arith, length-set address i byte, read.long);
    }

-- A text with a part that is no octet is no address.
pub no_address_at_part : (text address part : List ℕ) (rest : Bor (List ℕ)) (others : Option (Bor (List ℕ))) (start i : ℕ) → AreRead text address (Some rest) start i → IsCut 0x2e rest.now part others → is_octet part ≡ false → is_ipv4 text ≡ false
no_address_at_part text address part rest others start i read cut other =
    let next : IsNext (cut_at 0x2e text) part (rest_parts 0x2e others) i = next_of_cut text address part rest others start i read cut in
    and_right (eqb (length (cut_at 0x2e text)) 4) (list_all is_octet (cut_at 0x2e text)) (list_all_at is_octet (cut_at 0x2e text) i [] next.inside (rw next.here other))

-- A text of another count of parts is no address.
no_address_of_count : (text : List ℕ) → (length (cut_at 0x2e text) ≡ 4 → ⊥) → is_ipv4 text ≡ false
no_address_of_count text other = and_left (eqb (length (cut_at 0x2e text)) 4) (list_all is_octet (cut_at 0x2e text)) (ne_eqb (length (cut_at 0x2e text)) 4 other)

-- A text with more parts is no address.
pub no_address_long : (text address : List ℕ) (rest : Bor (List ℕ)) (start i : ℕ) → 4 ≤ i → AreRead text address (Some rest) start i → is_ipv4 text ≡ false
no_address_long text address rest start i all read =
    no_address_of_count text (λ four. omega (arith, length-drop i (cut_at 0x2e text), ap length read.left, some_part 0x2e rest.now))
