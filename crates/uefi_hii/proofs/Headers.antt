-- The header of a configuration, read pair by pair.
use Rattle.std.proofs.Common.{◌≡◌, ◌≢◌, ℕ, List, [], ◌∷◌, refl, ◌∙◌, ap}
use Rattle.std.specs.Prelude.{Option, Some, None, Result, Ok, Err, IsErrAnd, string_bytes}
use Rattle.uefi_hii.specs.declared.configuration.ConfigurationString.{ConfigurationString}
use Rattle.uefi_hii.specs.declared.error.ParseError.{ParseError}
use Rattle.uefi_path.specs.Node.{Node}
use Rattle.uefi_path.specs.Views.{boxed_nodes}
use Rattle.uefi_path.specs.declared.boxed.BoxedDevicePath.{BoxedDevicePath}
use Rattle.uefi_hii.specs.Pairs.{Pair}
use Rattle.uefi_hii.specs.Configuration.{HasPath, guid_in, name_in}
use Rattle.uefi_hii.specs.Slots.{AltSlot, GuidSlot, IsGood, IsHeader, NameSlot, PathSlot, alt_after_header}
use Rattle.uefi_hii.specs.Slots.{error_of, guid_first, name_after_guid, path_after_name}
use Rattle.uefi_hii.specs.private.Taking.{Misses, Takes, TakesAlt, TakesError, TakesHeader, TakesPath}
use Rattle.uefi_hii.proofs.Failing.{fails_after}
use Rattle.uefi_hii.proofs.Shapes.{some_is}

-- The three pairs with which a header begins, and the pairs that are left.
pub record HasThree (before left : List Pair) (x y : List ℕ) (path : List Node) : Type 0 where
  pub g : Pair
  pub n : Pair
  pub p : Pair
  pub whole : before ≡ g ∷ n ∷ p ∷ left
  pub guid : guid_in g ≡ Some x
  pub name : name_in n ≡ Some y
  pub has_path : HasPath p path

pub three_taken : {A : Type 0} (before one two left : List Pair) (x y : List ℕ) (path : BoxedDevicePath A)
    → Takes guid_in before (Some x) one → Takes name_in one (Some y) two → TakesPath two (Some path) left
    → HasThree before left x y (boxed_nodes path)
three_taken before one two left x y path g n p = record {
  g = g.0;
  n = n.0;
  p = p.0;
  whole = rw (g.1, n.1, p.1);
  guid = g.2;
  name = n.2;
  has_path = p.2;
}

-- The group fails where the GUID, the name, the path or the identifier has to come, and doesn't.
pub guid_fails : (before after : List Pair) → before ≢ [] → Takes guid_in before None after
    → TakesError before (error_of GuidSlot) after
guid_fails before after some missed = fails_after GuidSlot before [] before after some refl (guid_first refl) missed

pub name_fails : (before one after : List Pair) (x : List ℕ) → before ≢ [] → Takes guid_in before (Some x) one
    → Takes name_in one None after → TakesError before (error_of NameSlot) after
name_fails before one after x some g missed =
    fails_after NameSlot before (g.0 ∷ []) one after some g.1 (name_after_guid (some_is _ x g.2, tt)) missed

pub path_fails : (before one two after : List Pair) (x y : List ℕ) → before ≢ [] → Takes guid_in before (Some x) one
    → Takes name_in one (Some y) two
    → Misses (IsGood PathSlot) two after → TakesError before (error_of PathSlot) after
path_fails before one two after x y some g n missed =
    fails_after PathSlot before (g.0 ∷ n.0 ∷ []) two after some (rw (g.1, n.1))
    (path_after_name (some_is _ x g.2, (some_is _ y n.2, tt))) missed

pub alt_fails : (A : Type 0) (before left after : List Pair) (x y : List ℕ) (path : List Node) (e : ParseError)
    → before ≢ [] → HasThree before left x y path → TakesAlt left (Err e) after
    → TakesHeader {A = A} before (Err e) after
alt_fails A before left after x y path e some three missed =
    let good : IsHeader (three.g ∷ three.n ∷ three.p ∷ []) =
    (some_is _ x three.guid, (some_is _ y three.name, ((path, three.has_path), tt))) in
    rw missed.0
    (fails_after AltSlot before (three.g ∷ three.n ∷ three.p ∷ []) left after some three.whole
    (alt_after_header good missed.1) missed.2)

-- An error that is passed on is the result.
pub residual : {T E : Type 0} (r : Result T E) (e : E) → IsErrAnd r (λ y. y ≡ e) → r ≡ Err e
residual (Ok x) e h = absurd h
residual (Err y) e h = ap Err h

-- The header, with an identifier or without.
pub takes_header : {A : Type 0} (before left after : List Pair) (c : ConfigurationString A)
    → HasThree before left c.guid.0 (string_bytes c.name) (boxed_nodes c.device_path)
    → TakesAlt left (Ok c.alt_cfg_id) after → c.elements.items ≡ [] → TakesHeader before (Ok c) after
takes_header before left after c three alt none = by_alt c.alt_cfg_id refl alt
  where
    by_alt : (a : Option ℕ) → c.alt_cfg_id ≡ a → TakesAlt left (Ok a) after → TakesHeader before (Ok c) after
    by_alt None is t = (
      three.g ∷ three.n ∷ three.p ∷ [],
      rw (three.whole, t.0),
      (three.guid, three.name, three.has_path, is),
      none,
      λ e. rw t.0 t.1,
    )
    by_alt (Some id) is t = (
      three.g ∷ three.n ∷ three.p ∷ t.0 ∷ [],
      rw (three.whole, t.1),
      (three.guid, three.name, three.has_path, (t.2.0, t.2.1, is ∙ ap Some t.2.2)),
      none,
      λ e. absurd (cc),
    )
