-- Units whose bytes are at an offset.
use Rattle.std.proofs.Common.{◌≡◌, ℕ, ◌+◌, ◌*◌, ◌≤◌, List, ◌++◌, length, take, drop, sym, ap, ◌∙◌, arith}
use Rattle.std.proofs.Math.Seq.{take-append_seam, drop-append_seam}
use Rattle.std.proofs.lemmas.List.{length-append}
use Rattle.uefi_base.specs.Unaligned.{unit_bytes}
use Rattle.uefi_base.proofs.UnitsBack.{units_read_back}

module _ (bytes front units rest : List ℕ) (offset : ℕ) (at : length front ≡ offset)
    (is : bytes ≡ front ++ (unit_bytes units ++ rest)) where
  pub units_within : offset + 2 * length units ≤ length bytes
  units_within = omega (
    arith,
    ap length is,
    length-append front (unit_bytes units ++ rest),
    length-append (unit_bytes units) rest,
    units_read_back.sized units,
    at,
  )

  pub units_there : take (2 * length units) (drop offset bytes) ≡ unit_bytes units
  units_there =
      let dropped : drop offset bytes ≡ unit_bytes units ++ rest =
      ap (drop offset) is ∙ ap (λ (n : ℕ). drop n (front ++ (unit_bytes units ++ rest))) (sym at)
      ∙ drop-append_seam front (unit_bytes units ++ rest) in
      ap (take (2 * length units)) dropped
      ∙ ap (λ (n : ℕ). take n (unit_bytes units ++ rest)) (sym (units_read_back.sized units))
      ∙ take-append_seam (unit_bytes units) rest
