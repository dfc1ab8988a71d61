-- Pairs that spell a header, an element or a configuration, and a pair more.
use Rattle.std.proofs.Common.{◌≡◌, ◌≢◌, ℕ, ◌%◌, ◌^◌, List, [], ◌∷◌, ◌++◌, refl, sym, ◌∙◌, ap, subst, append_assoc}
use Rattle.std.proofs.Common.{arith}
use Rattle.std.proofs.lemmas.List.{append-nil}
use Rattle.std.specs.Prelude.{Option, Some, None, IsSome, is_some, option_and_then, codes}
use Rattle.std.specs.List.{AllByRecursion}
use Rattle.uefi_hii.specs.Pairs.{Pair}
use Rattle.uefi_hii.specs.Configuration.{Configuration, Element, Spells, SpellsElement, SpellsElements, SpellsHeader}
use Rattle.uefi_hii.specs.Configuration.{IsSkipped, number_in}
use Rattle.uefi_hii.specs.Values.{name}
use Rattle.uefi_hii.specs.Slots.{IsHeader}
use Rattle.uefi_hii.specs.Slots.{IsHeaderWithAlt}
use Rattle.uefi_hii.specs.Reading.{MayRunOut}
use Rattle.uefi_hii.proofs.Machine.{last_with_pair, with_pair, with_skipped}

pub some_is : {A : Type 0} (o : Option A) (x : A) → o ≡ Some x → IsSome o
some_is o x e = ap is_some e

-- A value that is a name is one.
pub named_value : (o : Option (List ℕ)) (y : List ℕ) → option_and_then name o ≡ Some y → IsSome o
named_value (Some value) y e = refl
named_value None y e = absurd (cc)

AllByRecursion-push : {A : Type 0} (P : A → Type 0) (xs : List A) (x : A) → AllByRecursion P xs → P x
    → AllByRecursion P (xs ++ x ∷ [])
AllByRecursion-push P [] x p q = (q, tt)
AllByRecursion-push P (y ∷ xs) x p q = (p.0, AllByRecursion-push P xs x p.1 q)

-- A header says nothing of the elements.
header_of_other : (h : List Pair) (c : Configuration) (es : List Element) → SpellsHeader h c
    → SpellsHeader h (record c { elements = es })
header_of_other h c es s = grind arith

-- The pairs of a header are good for its slots, three without an identifier and four with one.
pub header_good : (h : List Pair) (c : Configuration) → SpellsHeader h c → c.alt_cfg_id ≡ None → IsHeader h
header_good h c s e = grind arith

pub header_with_alt_good : (h : List Pair) (c : Configuration) (id : ℕ) → SpellsHeader h c → c.alt_cfg_id ≡ Some id
    → IsHeaderWithAlt h
header_with_alt_good h c id s e = grind arith

-- A header without an identifier, and a pair with one.
pub header_push_alt : (h : List Pair) (c : Configuration) (a : Pair) (id : ℕ) → SpellsHeader h c → c.alt_cfg_id ≡ None
    → number_in (codes "ALTCFG") a ≡ Some id
    → SpellsHeader (h ++ a ∷ []) (record c { alt_cfg_id = Some (id % 2 ^ 16) })
header_push_alt h c a id s e f = grind arith

-- An element and a pair that it skips, and elements and a pair that the last skips.
element_push_skipped : (ps : List Pair) (e : Element) (p : Pair) → SpellsElement ps e → IsSkipped p
    → SpellsElement (ps ++ p ∷ []) (with_pair e p)
element_push_skipped ps e p s k = grind (arith, AllByRecursion-push)

elements_push_skipped : (ps : List Pair) (es : List Element) (p : Pair) → es ≢ [] → SpellsElements ps es → IsSkipped p
    → SpellsElements (ps ++ p ∷ []) (last_with_pair es p)
elements_push_skipped ps [] p some s k = absurd (some refl)
elements_push_skipped ps (e ∷ []) p some s k = (
  s.0 ++ p ∷ [],
  [],
  ap (λ x. x ++ p ∷ []) (s.2 ∙ ap (λ x. s.0 ++ x) s.4 ∙ append-nil s.0)
      ∙ sym (append-nil (s.0 ++ p ∷ [])),
  element_push_skipped s.0 e p s.3 k,
  refl,
)
elements_push_skipped ps (e ∷ f ∷ es) p some s k = (
  s.0,
  s.1 ++ p ∷ [],
  ap (λ x. x ++ p ∷ []) s.2 ∙ append_assoc s.0 s.1 (p ∷ []),
  s.3,
  elements_push_skipped s.1 (f ∷ es) p (λ z. cc) s.4 k,
)

-- Elements, and one more.
elements_push : (ps qs : List Pair) (es : List Element) (e : Element) → SpellsElements ps es → SpellsElement qs e
    → SpellsElements (ps ++ qs) (es ++ e ∷ [])
elements_push ps qs [] e s t = (qs, [], ap (λ x. x ++ qs) s ∙ sym (append-nil qs), t, refl)
elements_push ps qs (f ∷ es) e s t =
    (s.0, s.1 ++ qs, ap (λ x. x ++ qs) s.2 ∙ append_assoc s.0 s.1 qs, s.3, elements_push s.1 qs es e s.4 t)

-- A configuration, and a pair that it skips, or an element more.
pub spells_skipped : (f : List Pair) (c : Configuration) (p : Pair) → Spells f c → c.elements ≢ [] → IsSkipped p
    → Spells (f ++ p ∷ []) (with_skipped c p)
spells_skipped f c p s some k = record {
  header = s.header;
  rest = s.rest ++ p ∷ [];
  whole = ap (λ x. x ++ p ∷ []) s.whole ∙ append_assoc s.header s.rest (p ∷ []);
  is_header = header_of_other s.header c (last_with_pair c.elements p) s.is_header;
  elements = elements_push_skipped s.rest c.elements p some s.elements k;
}

pub spells_element : (f qs : List Pair) (c : Configuration) (e : Element) → Spells f c → SpellsElement qs e
    → Spells (f ++ qs) (record c { elements = c.elements ++ e ∷ [] })
spells_element f qs c e s t = record {
  header = s.header;
  rest = s.rest ++ qs;
  whole = ap (λ x. x ++ qs) s.whole ∙ append_assoc s.header s.rest qs;
  is_header = header_of_other s.header c (c.elements ++ e ∷ []) s.is_header;
  elements = elements_push s.rest qs c.elements e s.elements t;
}

-- A configuration without elements is its header.
pub spells_bare : (f : List Pair) (c : Configuration) → Spells f c → c.elements ≡ [] → SpellsHeader f c
spells_bare f c s e =
    let none : s.rest ≡ [] = subst (λ es. SpellsElements s.rest es) e s.elements in
    subst (λ x. SpellsHeader x c) (sym (s.whole ∙ ap (λ x. s.header ++ x) none ∙ append-nil s.header)) s.is_header

pub spells_header : (h : List Pair) (c : Configuration) → SpellsHeader h c → c.elements ≡ [] → Spells h c
spells_header h c s e =
    record {
      header = h;
      rest = [];
      whole = sym (append-nil h);
      is_header = s;
      elements =
          subst (λ es. SpellsElements [] es) (sym e) refl;
    }

header_some : (h rest : List Pair) (c : Configuration) → SpellsHeader h c → h ++ rest ≢ []
header_some h rest c s e = grind arith

-- A configuration has pairs. The first is good for the GUID, and the second has the name's key and a value.
pub spells_some : (f : List Pair) (c : Configuration) → Spells f c → f ≢ []
spells_some f c s e = header_some s.header s.rest c s.is_header (sym s.whole ∙ e)

header_runs_out : (h rest : List Pair) (c : Configuration) → SpellsHeader h c → MayRunOut (h ++ rest)
header_runs_out h rest c s = grind (arith, named_value)

pub spells_good : (before f left : List Pair) (c : Configuration) → Spells f c → before ≡ f ++ left → MayRunOut before
spells_good before f left c s e =
    rw (e, s.whole, append_assoc s.header s.rest left)
    (header_runs_out s.header (s.rest ++ left) c s.is_header)
