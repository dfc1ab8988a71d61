-- The elements of a configuration, read one after another.
use Rattle.std.proofs.Common.{◌≡◌, ◌≢◌, ℕ, List, [], ◌∷◌, ◌++◌, map, refl, ap}
use Rattle.std.proofs.Common.{append_assoc, inl, inr}
use Rattle.std.proofs.lemmas.List.{map-append}
use Rattle.std.proofs.lemmas.Bool.{cases_Bool}
use Rattle.std.proofs.lemmas.Slice.Eq.{bytes_eq-Decides}
use Rattle.std.specs.Prelude.{Vec, reverse, Option, Some, None, Ok, Err, codes}
use Rattle.std.specs.Str.{bytes_eq}
use Rattle.uefi_hii.specs.declared.configuration.ConfigurationString.{ConfigurationString}
use Rattle.uefi_hii.specs.declared.configuration.ConfigurationStringElement.{ConfigurationStringElement}
use Rattle.uefi_hii.specs.declared.error.ParseError.{ParseError}
use Rattle.uefi_hii.specs.declared.error.ParseError.TheVariants.{BlockConfig, BlockName, ConfigHdr, Memory}
use Rattle.uefi_hii.specs.Hex.{hex}
use Rattle.uefi_hii.specs.Pairs.{Pair}
use Rattle.uefi_hii.specs.Configuration.{Configuration, Spells, number_in, value_at}
use Rattle.uefi_hii.specs.Slots.{Expects, IsKey, OffsetSlot, ValueSlot, WidthSlot, offset_after_alt}
use Rattle.uefi_hii.specs.Slots.{offset_after_element, offset_after_header, value_after_width, width_after_offset}
use Rattle.uefi_hii.specs.Group.{EndsBefore}
use Rattle.uefi_hii.specs.Cut.{first_pair}
use Rattle.uefi_hii.specs.Views.{configuration_of, element_of, nv_pair_of}
use Rattle.uefi_hii.specs.Reading.{TakesGroup}
use Rattle.uefi_hii.specs.private.Taking.{MissesElement, Skips, StopsAt, Takes, TakesElement, TakesError, TakesHeader}
use Rattle.uefi_hii.proofs.Failing.{fails_after}
use Rattle.uefi_hii.proofs.Leading.{is_other, push_some}
use Rattle.uefi_hii.proofs.Shapes.{header_good, header_with_alt_good, spells_element, spells_good, spells_header}
use Rattle.uefi_hii.proofs.Shapes.{spells_some}

-- What was read of a configuration before an element, and the pairs that are left.
pub record ComesBefore (before left : List Pair) (c : Configuration) : Type 0 where
  pub body : List Pair
  pub whole : before ≡ body ++ left
  pub spells : Spells body c
  pub expects : Expects body (first_pair left) OffsetSlot

-- After a header an element comes, if a pair is left.
pub after_header : {A : Type 0} (before left : List Pair) (c : ConfigurationString A) → TakesHeader before (Ok c) left
    → left ≢ [] → ComesBefore before left (configuration_of c)
after_header before left c h some = record {
  body = h.0;
  whole = h.1;
  spells = spells_header h.0 (configuration_of c) h.2 (ap (map element_of) h.3);
  expects = by_alt c.alt_cfg_id refl left some h.4;
}
  where
    by_alt : (a : Option ℕ) → c.alt_cfg_id ≡ a → (left : List Pair) → left ≢ []
        → (c.alt_cfg_id ≡ None → ¬ IsKey (codes "ALTCFG") (first_pair left)) → Expects h.0 (first_pair left) OffsetSlot
    by_alt a alt [] some other = absurd (some refl)
    by_alt None alt (q ∷ left) some other =
        offset_after_header (header_good h.0 (configuration_of c) h.2 alt) (other alt)
    by_alt (Some id) alt (q ∷ left) some other =
        offset_after_alt (header_with_alt_good h.0 (configuration_of c) id h.2 alt) refl

-- A pair of the element is missing, so the group fails.
misses_fails : (before left after : List Pair) (c : Configuration) (e : ParseError) → before ≢ []
    → ComesBefore before left c → MissesElement left after e → TakesError before e after
misses_fails before left after c e some g (inl m) =
    rw m.0 (fails_after OffsetSlot before g.body left after some g.whole g.expects m.1)
misses_fails before left after c e some g (inr (inl m)) =
    let o = m.0 in
    rw m.2
    (fails_after WidthSlot before (g.body ++ o ∷ []) m.1 after some
    (rw (g.whole, m.3, append_assoc g.body (o ∷ []) m.1))
    (width_after_offset (g.body, o ∷ [], refl, (c, g.spells), (m.4, tt))) m.5)
misses_fails before left after c e some g (inr (inr m)) =
    let o = m.0 in
    let w = m.1 in
    rw m.3
    (fails_after ValueSlot before (g.body ++ o ∷ w ∷ []) m.2 after some
    (rw (g.whole, m.4, append_assoc g.body (o ∷ w ∷ []) m.2))
    (value_after_width (g.body, o ∷ w ∷ [], refl, (c, g.spells), (m.5, (m.6, tt)))) m.7)

-- So does an element that fails.
pub element_fails : (A : Type 0) (before left after : List Pair) (c : Configuration) (e : ParseError) → before ≢ []
    → ComesBefore before left c
    → TakesElement {A = A} left (Err e) after → TakesGroup {A = A} before (Err e) after
element_fails A before left after c (ConfigHdr s) some g h = misses_fails before left after c (ConfigHdr s) some g h
element_fails A before left after c BlockName some g h = misses_fails before left after c BlockName some g h
element_fails A before left after c BlockConfig some g h = misses_fails before left after c BlockConfig some g h
element_fails A before left after c Memory some g h = spells_good before g.body left c g.spells g.whole

-- What was read of a configuration after an element, and the pairs that are left.
pub record ComesAfter (before after : List Pair) (c : Configuration) : Type 0 where
  pub body : List Pair
  pub whole : before ≡ body ++ after
  pub spells : Spells body c
  pub some : c.elements ≢ []
  pub stops : StopsAt after

pub after_element : {A : Type 0} (before left after : List Pair) (c : ConfigurationString A)
    (elements : Vec (ConfigurationStringElement A) A) (e : ConfigurationStringElement A)
    → ComesBefore before left (configuration_of c) → TakesElement left (Ok e) after
    → elements.items ≡ c.elements.items ++ e ∷ []
    → ComesAfter before after (configuration_of (record c { elements = elements }))
after_element before left after c elements e g t push = record {
  body = g.body ++ t.0;
  whole = rw (g.whole, t.1, append_assoc g.body t.0 after);
  spells = rw (push, map-append) (spells_element g.body t.0 (configuration_of c) (element_of e) g.spells t.2);
  some = λ none. push_some (map element_of c.elements.items) (element_of e) (rw (push, map-append) at none);
  stops = t.3;
}

-- Another element comes where the next key is OFFSET; else the configuration ends.
pub goes_on : (before after : List Pair) (c : Configuration) → ComesAfter before after c
    → IsKey (codes "OFFSET") (first_pair after) → ComesBefore before after c
goes_on before after c g key = record {
  body = g.body;
  whole = g.whole;
  spells = g.spells;
  expects = offset_after_element (c, g.spells, g.some) key;
}

pub ends : {A : Type 0} (before after : List Pair) (c : ConfigurationString A)
    → ComesAfter before after (configuration_of c) → ¬ IsKey (codes "OFFSET") (first_pair after)
    → TakesGroup before (Ok c) after
ends before after c g other = (
  g.body,
  g.whole,
  record {
    not_empty = spells_some g.body (configuration_of c) g.spells;
    gives =
        (g.spells, at_end after g.stops other);
  },
)
  where
    at_end : (s : List Pair) → StopsAt s → ¬ IsKey (codes "OFFSET") (first_pair s)
        → EndsBefore (first_pair s) (configuration_of c)
    at_end [] stop off = tt
    at_end (q ∷ s) stop off =
        elim (cases_Bool (bytes_eq q.key (codes "GUID"))) [
          | inl same ↦ ((bytes_eq-Decides q.key (codes "GUID")).0 same, g.some)
          | inr other ↦ absurd (stop (off, is_other q.key (codes "GUID") other))
        ]

-- The pairs of an element, one after another.
pub takes_element : {A : Type 0} (before one two three after : List Pair) (e : ConfigurationStringElement A)
    (text : List ℕ)
    → Takes (number_in (codes "OFFSET")) before (Some e.offset) one
    → Takes (number_in (codes "WIDTH")) one (Some e.width) two
    → Takes (value_at (codes "VALUE")) two (Some text) three
    → e.value.items ≡ reverse (hex text) → Skips three (map nv_pair_of e.nvconfig.items) after
    → TakesElement before (Ok e) after
takes_element before one two three after e text o w v is s = (
  o.0 ∷ w.0 ∷ v.0 ∷ map nv_pair_of e.nvconfig.items,
  rw (o.1, w.1, v.1, s.0),
  (o.2, w.2, rw (v.2, is), refl, s.1),
  s.2,
)
