use Rattle.std.proofs.Common.{◌+◌, ◌*◌, ap, ◌∙◌, sym, arith, length, take, ◌++◌}
use Rattle.std.proofs.lemmas.Simd.{take_more_put_chunk}
use lib.Lanes.{chunk}
use Rattle.uefi_hii.specs.Hex.{hex}
use Rattle.uefi_hii.proofs.PairLanes.{block_items, half_fits}
use Rattle.uefi_hii.proofs.HexParts.{filled_more, hex-block, length-block}
use Rattle.uefi_hii.proofs.filling.fill_block.Goals as goal

pub are_digits-requires-clause-bytes : goal.are_digits-requires-clause-bytes
are_digits-requires-clause-bytes c = half_fits 0 (2 * c.args.start) c.args.text.now c.type_inv.text

pub are_digits-requires-then-are_digits-clause-bytes : goal.are_digits-requires-then-are_digits-clause-bytes
are_digits-requires-then-are_digits-clause-bytes c = half_fits 1 (2 * c.args.start) c.args.text.now c.type_inv.text

pub digit_values-requires-clause-bytes : goal.digit_values-requires-clause-bytes
digit_values-requires-clause-bytes c = half_fits 0 (2 * c.args.start) c.args.text.now c.type_inv.text

pub digit_values-requires-then-are_digits-2-clause-bytes : goal.digit_values-requires-then-are_digits-2-clause-bytes
digit_values-requires-then-are_digits-2-clause-bytes c = half_fits 1 (2 * c.args.start) c.args.text.now c.type_inv.text

pub returns-then-are_digits-2 : goal.returns-then-are_digits-2
returns-then-are_digits-2 c =
    let start = c.args.start in
    let text = c.args.text.now in
    let out = c.args.out.now in
    let items = hex (chunk (2 * start) 32 text) in
    let lanes = block_items (2 * start) text c.requires.text _ _ (sym c.are_digits.ensures ∙ c.if-are_digits.true)
    (sym c.are_digits-then-are_digits.ensures ∙ c.if-are_digits-2.true) c.digit_values.ensures
    c.digit_values-then-are_digits-2.ensures in
    let long = ap length lanes ∙ length-block start text c.requires.text in
    filled_more start 16 text out _ items c.requires.so_far
    (take_more_put_chunk start out _ (start + 16) (omega (arith, long)) c.requires.room
    ∙ ap (λ r. take start out ++ r) lanes) (hex-block start text c.requires.text)
