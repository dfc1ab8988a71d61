-- The verdict on written bytes, by the index of the first zero unit.
use Rattle.std.proofs.Common.{◌≡◌, ℕ, ◌+◌, ◌-◌, ◌≤◌, min, Some, List, length, take, drop, sym}
use Rattle.std.proofs.Common.{◌∙◌, ap, arith, refl, subst}
use Rattle.std.proofs.lemmas.Bool.Decides.{nat_tests}
use Rattle.std.proofs.lemmas.Grind.{common_steps}
use Rattle.std.proofs.lemmas.List.{same_lists, places, length-drop, length-take-le}
use Rattle.uefi_base.specs.Unaligned.{units_of}
use Rattle.uefi_base.proofs.UnitsOfBytes.{units_by_place}
use Rattle.uefi_records.specs.private.file.Kept.{EndsWithName}
use Rattle.uefi_records.specs.file.Name.{IsName, first_zero, record_end, record_size, units_from}
use Rattle.uefi_records.specs.file.Verdict.{accepted, judged, verdict}
use Rattle.uefi_records.proofs.file.FirstZero.{IsFirstAt, first_zero_is}

-- The bytes behind an offset, among those that were written.
pub written_part : (bytes : List ℕ) (n written at offset : ℕ) → n ≡ min written (length bytes)
    → at ≡ min offset (length (take n bytes))
    → take (length (take n bytes) - at) (drop at (take n bytes)) ≡ drop offset (take written bytes)
written_part bytes n written at offset is begins = grind (arith, common_steps)

-- The units of a name, in the written bytes and in the bytes that end with the name.
pub units_of_prefix : (bytes : List ℕ) (offset count written : ℕ) → record_end offset count ≤ written
    → take count (units_of (drop offset (take written bytes)))
    ≡ units_from offset (take (record_end offset count) bytes)
units_of_prefix bytes offset count written within =
    sym (units_by_place.front (drop offset (take written bytes)) count)
    ∙ ap units_of (same_lists _ _ (grind (arith, common_steps)) (λ k d within_both. grind (arith, places)))

-- The units up to and with the first zero are a name.
is_name : (units : List ℕ) (index : ℕ) → IsFirstAt units index → IsName (take (index + 1) units)
is_name units index first = record {
  not_empty = grind (arith, common_steps, first.within);
  nul = grind (arith, common_steps, first.within, first.is_zero);
  others = λ k before. grind (arith, common_steps, first.within, first.before k);
}

-- The verdict if the first zero unit is known and the record fits the buffer.
pub accepted_at : (offset alignment room index count : ℕ) (written : List ℕ)
    → first_zero (units_from offset written) ≡ Some index → count ≡ index + 1
    → record_size offset alignment count ≤ room
    → verdict offset alignment written room ≡ accepted (take count (units_from offset written))
accepted_at offset alignment room index count written at next within =
    ap (judged offset alignment (units_from offset written) room) at ∙ grind (arith, nat_tests)

-- The record of the bytes up to that unit, and the verdict that has its name.
pub accepts : (bytes named : List ℕ) (offset alignment written index : ℕ) → named ≡ drop offset (take written bytes)
    → first_zero (units_of named) ≡ Some index
    → record_end 0 (index + 1) ≤ length named → record_size offset alignment (index + 1) ≤ length bytes
    → let end = record_end offset (index + 1) in
    (end ≤ length bytes) × EndsWithName offset (take end bytes)
    × (verdict offset alignment (take written bytes) (length bytes) ≡ accepted
    (units_from offset (take end bytes)))
accepts bytes named offset alignment written index is at within room =
    let end : ℕ = record_end offset (index + 1) in
    let units : List ℕ = units_from offset (take written bytes) in
    let found : first_zero units ≡ Some index = ap (λ part. first_zero (units_of part)) (sym is) ∙ at in
    let left : length named ≡ min written (length bytes) - offset = grind (arith, common_steps) in
    let inside : end ≤ length bytes = omega (arith, within, left) in
    let whole : length (take end bytes) ≡ end = length-take-le end bytes inside in
    let same : take (index + 1) units ≡ units_from offset (take end bytes) =
    units_of_prefix bytes offset (index + 1) written (omega (arith, within, left)) in (
      inside,
      record {
        before = omega (arith, whole);
        whole_units = omega (arith, whole, length-drop {A = ℕ});
        name = subst IsName same (is_name units index (first_zero_is units index found));
      },
      accepted_at offset alignment (length bytes) index (index + 1) (take written bytes) found refl room
          ∙ ap (λ name. accepted name) same,
    )
