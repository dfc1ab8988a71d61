-- Numbers outside the range of a field.
use Rattle.std.proofs.Common.{◌≡◌, ℕ, Bool, false, not, arith}
use Rattle.std.specs.Prelude.{Some}
use Rattle.std.specs.Ordering.{nat_cmp}
use Rattle.std.specs.Range.{range_inclusive_contains, range_inclusive_end, range_inclusive_exhausted, range_inclusive_start}
use Rattle.std.proofs.lemmas.Bool.Decides.{nat_tests}
use Rattle.uefi_records.specs.time.Faults.{is_outside}

-- A number is outside a range that doesn't contain it.
pub not_contained : (range : _) (lowest highest n : ℕ) (r : Bool) → range_inclusive_start range ≡ lowest
    → range_inclusive_end range ≡ highest → range_inclusive_exhausted range ≡ false
    → r ≡ range_inclusive_contains (λ x y. Some (nat_cmp x y)) range n → not r ≡ is_outside lowest highest n
not_contained range lowest highest n r first last whole contains = grind (arith, nat_tests)
