use Rattle.std.proofs.Common.{◌<◌, ℕ, List, eqb, sym, ap, ◌∙◌, arith, w8, length, map, subst}
use lib.Count.{count_trailing_zeros}
use lib.Lanes.{chunk, mask_l}
use Rattle.std.proofs.lemmas.Simd.{bitmask_splat, length-chunk, trailing_mask_l}
use Rattle.uefi_hii.proofs.FirstByte.{some_lane_passes}
use Rattle.uefi_hii.proofs.finding.lane_of.Goals as goal

pub returns : goal.returns
returns c =
    let block : List ℕ = chunk c.args.start 16 c.args.bytes.now in
    let long = length-chunk c.args.start 16 c.args.bytes.now c.requires in
    let mask = bitmask_splat w8 eqb block 16 c.args.byte long (omega arith) in
    let set : 0 < mask_l (map (λ x. eqb x c.args.byte) block) = omega arith in
    let first = ap (count_trailing_zeros 64) mask
    ∙ trailing_mask_l (λ x. eqb x c.args.byte) 64 block (omega arith) set in
    (first, subst (λ n. n < length block) (sym first) (some_lane_passes (λ x. eqb x c.args.byte) block set))
