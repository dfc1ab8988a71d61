-- Units that are written into a buffer one after another.
use Rattle.std.proofs.Common.{◌≡◌, ℕ, ◌+◌, ◌*◌, ◌<◌, ◌≤◌, List, [], ◌∷◌, ◌++◌, length, drop, map, refl, sym, ap, subst}
use Rattle.std.proofs.Common.{◌∙◌, arith}
use Rattle.std.proofs.lemmas.Grind.{flat_map-append}
use Rattle.std.proofs.lemmas.List.{append-nil, length-append, length-drop, length-map, map-append}
use Rattle.std.specs.Str.{chars}
use Rattle.uefi_base.specs.Buffer.{put_at, put_prefix}
use Rattle.uefi_base.specs.LittleEndian.{u16_bytes}
use Rattle.uefi_base.specs.Unaligned.{unit_bytes}
use Rattle.uefi_base.proofs.Parts.{put_more}
use Rattle.uefi_base.proofs.UnitsBack.{units_read_back}
use Rattle.uefi_c.specs.Ucs2.{ucs2_of}

-- How many bytes the units of a text have.
pub ucs2_size : (bytes : List ℕ) → length (ucs2_of bytes) ≡ 2 * (length (chars bytes) + 1)
ucs2_size bytes = units_read_back.sized (chars bytes ++ 0 ∷ [])
    ∙ ap (λ (n : ℕ). 2 * n) (length-append (chars bytes) (0 ∷ []))

-- The units are at the beginning of a buffer, up to the offset; the other bytes are as they were.
pub record HasUnits (units old now : List ℕ) (offset : ℕ) : Type 0 where
  pub sized : offset ≡ 2 * length units
  pub within : offset ≤ length old
  pub put : now ≡ put_prefix (unit_bytes units) old

pub no_units : (old : List ℕ) → HasUnits [] old old 0
no_units old = record { sized = refl; within = omega arith; put = refl }

-- The buffer has as many bytes as before.
pub same_length : (units old now : List ℕ) (offset : ℕ) → HasUnits units old now offset → length now ≡ length old
same_length units old now offset has = omega (
  arith,
  has.sized,
  has.within,
  units_read_back.sized units,
  ap length has.put,
  length-append (unit_bytes units) (drop (length (unit_bytes units)) old),
  length-drop (length (unit_bytes units)) old,
)

-- The bytes of one unit more.
unit_bytes_more : (units : List ℕ) (unit : ℕ) → unit_bytes units ++ u16_bytes unit ≡ unit_bytes (units ++ unit ∷ [])
unit_bytes_more units unit =
    ap (λ last. unit_bytes units ++ last) (sym (append-nil (u16_bytes unit)))
    ∙ sym (flat_map-append u16_bytes units (unit ∷ []))

pub one_unit : (units old now next : List ℕ) (offset unit : ℕ) → HasUnits units old now offset
    → offset + 2 ≤ length old → next ≡ put_at offset (u16_bytes unit) now
    → HasUnits (units ++ unit ∷ []) old next (offset + 2)
one_unit units old now next offset unit has room is = record {
  sized = omega (arith, has.sized, length-append units (unit ∷ []));
  within = room;
  put = put_more offset (unit_bytes units) (u16_bytes unit) (u16_bytes unit) old now next has.put
      (units_read_back.sized units ∙ sym has.sized) has.within refl is
      ∙ ap (λ part. put_prefix part old) (unit_bytes_more units unit);
}

-- The units of the characters that were yielded, and the room for one more.
module _ (yielded : List ℕ) (old now : List ℕ) (offset n : ℕ)
    (has : HasUnits (map (λ c. c) yielded) old now offset) (more : length yielded < n) (room : 2 * n ≤ length old) where
  pub room_for_unit : offset + 2 ≤ length old
  room_for_unit = omega (arith, has.sized, length-map yielded (λ (c : ℕ). c), more, room)

  pub unit_fits : offset + 2 ≤ length now
  unit_fits = omega (arith, room_for_unit, same_length (map (λ c. c) yielded) old now offset has)

  pub one_yielded : (next part : List ℕ) (c : ℕ) → next ≡ put_at offset part now → part ≡ u16_bytes c
      → HasUnits (map (λ d. d) (yielded ++ c ∷ [])) old next (offset + 2)
  one_yielded next part c is same = subst (λ units. HasUnits units old next (offset + 2))
      (sym (map-append (λ (d : ℕ). d) yielded (c ∷ [])))
      (one_unit (map (λ d. d) yielded) old now next offset c has room_for_unit
      (is ∙ ap (λ p. put_at offset p now) same))
