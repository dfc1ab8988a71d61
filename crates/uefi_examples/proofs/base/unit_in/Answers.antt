use Rattle.std.proofs.Common.{arith, sym, ◌∙◌, ◌≡◌, ◌*◌, ◌%◌, ◌<◌, ℕ, List, length}
use Rattle.std.specs.Prelude.{Option, Some, None, SomeIff, slice_get}
use Rattle.std.proofs.lemmas.Option.{get_or_from_slice_get, slice_get-get_or, slice_get_within}
use Rattle.uefi_base.specs.LittleEndian.{u16_at}
use Rattle.uefi_base.specs.Laws.{UnitsByPlace}
use Rattle.uefi_base.specs.Unaligned.{units_of}
use Rattle.uefi_examples.proofs.base.unit_in.Goals as goal

-- A unit that is got is the number at twice its index.
unit_got : UnitsByPlace → (bytes : List ℕ) (index : ℕ) (found : Option ℕ) → length bytes % 2 ≡ 0
    → found ≡ slice_get (units_of bytes) index
    → SomeIff found ((length bytes % 2 ≡ 0) × (2 * index < length bytes)) (u16_at bytes (2 * index))
unit_got law bytes index None even is = λ both. let got =
    slice_get-get_or (units_of bytes) index 0 (omega (arith, both.1, law.counted bytes)) in cc
unit_got law bytes index (Some unit) even is =
    let within = slice_get_within (units_of bytes) index unit (sym is) in (
      (even, omega (arith, law.counted bytes)),
      sym (get_or_from_slice_get (units_of bytes) index unit 0 (sym is))
          ∙ law.each bytes index within,
    )

pub returns : goal.returns
returns c = unit_got c.units_by_place.ensures c.args.bytes.now c.args.index c.get.result c.if-bytes-ne0.false
    (rw c.new.ensures at c.get.ensures)
