use Rattle.std.proofs.Common.{◌≡◌, ◌++◌, ◌∙◌, true, refl, take-append-drop}
use Rattle.shown.proofs.HexBlocks.{rest_after_block}
use Rattle.shown.specs.declared.hex_text.TheConstants.{BLOCK}
use Rattle.shown.proofs.hex_text.write_hex.Goals as goal

pub loop-rest-preserved : goal.loop-rest-preserved
loop-rest-preserved g c plain =
    let rest = c.loop-rest.rest.now in
    let cut : c.split_at.result.0.now ++ c.split_at.result.1.now ≡ rest =
    (λ i. c.split_at.ensures.front i ++ c.split_at.ensures.back i) ∙ take-append-drop BLOCK rest in
    let before = c.loop-rest.invariant plain in
    rest_after_block _ _ _ _ _ rest _ _ cut before (c.in_ok-write_block.ensures before.plain (refl {a = true}))
