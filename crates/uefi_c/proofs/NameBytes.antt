-- The bytes of a name that a record was accepted with, and the size that a refused one needs.
use Rattle.std.proofs.Common.{◌≡◌, ℕ, ◌+◌, ◌-◌, ◌*◌, ◌<◌, ◌≤◌, Bool, true, false, min, List, [], ◌∷◌, length, take}
use Rattle.std.proofs.Common.{drop, Option, Some, None, refl, sym, ap, subst, ◌∙◌, arith}
use Rattle.std.specs.List.{position_from}
use Rattle.std.specs.Prelude.{nat_le, unwrap_or, if◌then◌else◌, ◌==◌}
use Rattle.std.proofs.lemmas.List.{take-take, drop-take, length-take, length-take-le, length-drop}
use Rattle.uefi_base.specs.declared.status.Error.{Error}
use Rattle.uefi_base.specs.Unaligned.{units_of}
use Rattle.uefi_base.specs.Views.{error_data}
use Rattle.uefi_base.proofs.UnitsOfBytes.{half_as_many_units, units_by_place}
use Rattle.uefi_records.specs.file.Name.{first_zero, record_size, units_from}
use Rattle.uefi_records.specs.file.Verdict.{Verdict, without_name, too_small, accepted, judged, verdict, Refuses}
use Rattle.uefi_c.specs.Info.{HasStatus, NeedsSize}
use Rattle.uefi_c.specs.Status.{buffer_too_small, not_nul_terminated}

-- The first zero unit is one of the units.
first_within : (units : List ℕ) (start index : ℕ) → position_from (λ unit. unit == 0) start units ≡ Some index
    → index < start + length units
first_within [] start index is = absurd cc
first_within (unit ∷ units) start index is = by_test (unit == 0) is (first_within units (start + 1) index)
  where
    by_test : (t : Bool) → (if t then Some start else position_from (λ unit. unit == 0) (start + 1) units) ≡ Some index
        → (position_from (λ unit. unit == 0) (start + 1) units ≡ Some index → index < start + 1 + length units)
        → index < start + length (unit ∷ units)
    by_test true e others = let same : start ≡ index = cc in omega (arith, same)
    by_test false e others = omega (arith, others e)

-- The name of an accepted record is the units up to and with the first zero.
record IsAccepted (offset : ℕ) (written name : List ℕ) : Type 0 where
  index : ℕ
  found : first_zero (units_from offset written) ≡ Some index
  is_name : name ≡ take (index + 1) (units_from offset written)

abbrev name_of : Verdict → List ℕ → List ℕ
name_of without_name other = other
name_of (too_small size) other = other
name_of (accepted name) other = name

is_accepted : (offset alignment room : ℕ) (written name : List ℕ)
    → verdict offset alignment written room ≡ accepted name → IsAccepted offset written name
is_accepted offset alignment room written name is = by_index (first_zero (units_from offset written)) refl is
  where
    by_index : (found : Option ℕ) → first_zero (units_from offset written) ≡ found
        → judged offset alignment (units_from offset written) room found ≡ accepted name
        → IsAccepted offset written name
    by_index None at so = absurd cc
    by_index (Some index) at so = by_size (nat_le (record_size offset alignment (index + 1)) room) so
      where
        by_size : (t : Bool) →
            (if t then accepted (take (index + 1) (units_from offset written)) else too_small
            (record_size offset alignment (index + 1)))
            ≡ accepted name → IsAccepted offset written name
        by_size true e = record { index = index; found = at; is_name = sym (ap (λ v. name_of v name) e) }
        by_size false e = absurd cc

module _ (offset alignment written : ℕ) (buffer name : List ℕ)
    (is : verdict offset alignment (take written buffer) (length buffer) ≡ accepted name) where
  abbrev named : List ℕ
  named = drop offset (take written buffer)

  there : IsAccepted offset (take written buffer) name
  there = is_accepted offset alignment (length buffer) (take written buffer) name is

  count : length name ≡ there.index + 1
  count =
      ap length there.is_name
      ∙ length-take-le (there.index + 1) (units_of named)
      (omega (arith, first_within (units_of named) 0 there.index there.found))

  sized : length named ≡ min written (length buffer) - offset
  sized = length-drop offset (take written buffer) ∙ ap (λ (n : ℕ). n - offset) (length-take written buffer)

  enough : 2 * length name ≤ length named
  enough = omega (
    arith,
    count,
    half_as_many_units named,
    first_within (units_of named) 0 there.index there.found,
  )

  -- It is within the buffer.
  pub name_within : offset + 2 * length name ≤ length buffer
  name_within = omega (arith, enough, sized, count)

  within_written : offset + 2 * length name ≤ written
  within_written = omega (arith, enough, sized, count)

  -- Its bytes there have its units.
  pub name_there : units_of (take (2 * length name) (drop offset buffer)) ≡ name
  name_there =
      ap units_of (sym (drop-take offset (2 * length name) buffer)
      ∙ ap (drop offset) (sym (take-take (offset + 2 * length name) written buffer within_written))
      ∙ drop-take offset (2 * length name) (take written buffer))
      ∙ units_by_place.front named (length name) ∙ ap (λ (n : ℕ). take n (units_of named)) count ∙ sym there.is_name

  -- A view of as many units there is within the buffer, and is the name.
  module _ (units : ℕ) (counted : List ℕ) (long : units ≡ length counted) (are : counted ≡ name) where
    sized_name : length name ≡ units
    sized_name = sym (long ∙ ap length are)

    pub view_within : offset + 2 * units ≤ length buffer
    view_within = subst (λ (n : ℕ). offset + 2 * n ≤ length buffer) sized_name name_within

    pub view_named : (view : List ℕ) → view ≡ take (2 * units) (drop offset buffer)
        → verdict offset alignment (take written buffer) (length buffer) ≡ accepted (units_of view)
    view_named view there =
        is ∙ ap (λ (n : List ℕ). accepted n) (sym name_there
        ∙ ap (λ (n : ℕ). units_of (take (2 * n) (drop offset buffer))) sized_name ∙ ap units_of (sym there))

-- The size that is beside an error.
pub needs : (v : Verdict) (error : Error (Option ℕ)) (needed : ℕ) → Refuses v error
    → needed ≡ unwrap_or (error_data error) 0 → NeedsSize v needed
needs without_name error needed refuses is = is ∙ ap (λ (o : Option ℕ). unwrap_or o 0) refuses.1
needs (too_small size) error needed refuses is = is ∙ ap (λ (o : Option ℕ). unwrap_or o 0) refuses.1
needs (accepted name) error needed refuses is = absurd refuses

-- The status that is beside an error, by whether it has a size.
pub status_with : (v : Verdict) (error : Error (Option ℕ)) → Refuses v error → (size : ℕ) → error_data error ≡ Some size
    → HasStatus v buffer_too_small
status_with without_name error refuses size is = let no : None ≡ Some size = sym refuses.1 ∙ is in cc
status_with (too_small n) error refuses size is = refl
status_with (accepted name) error refuses size is = absurd refuses

pub status_without : (v : Verdict) (error : Error (Option ℕ)) → Refuses v error → error_data error ≡ None
    → HasStatus v not_nul_terminated
status_without without_name error refuses is = refl
status_without (too_small n) error refuses is = let no : Some n ≡ None = sym refuses.1 ∙ is in cc
status_without (accepted name) error refuses is = absurd refuses
