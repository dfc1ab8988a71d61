use Rattle.std.proofs.Common.{eqb, not, List, ℕ, ap, ◌∙◌, arith, refl, w16, min}
use Rattle.std.specs.List.{prefix_len}
use lib.Count.{count_trailing_zeros}
use lib.Lanes.{chunk, digits_l, number_l}
use Rattle.std.proofs.lemmas.Simd.{bitmask_splat}
use Rattle.uefi_records.proofs.file.UnitLanes.{block_lanes_are_units, first_set_lane}
use Rattle.uefi_records.proofs.file.first_zero.nonzero_run.Goals as goal

pub returns : goal.returns
returns c =
    let lanes : List ℕ = digits_l 65536 16 (number_l 256 (chunk c.args.offset 32 c.args.bytes.now)) in
    let mask = bitmask_splat w16 eqb lanes 16 0 refl (omega arith) in
    c.min.ensures ∙ ap (λ bits. min (count_trailing_zeros 64 bits) 16) mask
    ∙ first_set_lane (λ x. eqb x 0) lanes 16 refl (omega arith)
    ∙ ap (prefix_len (λ x. not (eqb x 0)))
    (block_lanes_are_units c.args.offset c.args.bytes.now c.requires c.type_inv.bytes)
