use Rattle.std.proofs.lemmas.Result.{on_ok_weaker}
use Rattle.shown.specs.HexText.{hex_of}
use Rattle.audit_text.specs.words.Said.{shown_hex}
use Rattle.audit_text.proofs.words.FirstItems.{first_appended}
use Rattle.audit_text.proofs.words.said.push_hex.Goals as goal

pub returns : goal.returns
unfolding shown_hex
returns c =
    on_ok_weaker c.push_more.result
    (λ others. first_appended c.args.bytes.now _ _ 1000 c.min.result c.min.ensures c.split_at.ensures.front
    c.split_at.ensures.back hex_of _ _ _ c.in_ok-write.ensures.bytes others) c.push_more.ensures
