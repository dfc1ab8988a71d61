use Rattle.std.proofs.Common.{string_bytes}
use Rattle.std.proofs.lemmas.Result.{on_ok_weaker}
use Rattle.audit_text.proofs.text.HexLines.{last_line, one_line}
use Rattle.audit_text.proofs.text.events.hex_lines.push_hex_lines.Goals as goal

pub loop-rest-preserved : goal.loop-rest-preserved
loop-rest-preserved c =
    one_line c.loop-rest.rest.now _ _ _ (string_bytes c.loop-rest.text) _ c.loop-rest-test.true c.split_at.ensures.front
    c.split_at.ensures.back c.in_ok-push_hex_line.ensures c.loop-rest.invariant

pub returns : goal.returns
returns c =
    on_ok_weaker c.push_hex_line-2.result
    (λ more. last_line c.loop-rest.rest.now _ (string_bytes c.loop-rest.text) _ c.loop-rest-test.false more c.loop-rest.invariant)
    c.push_hex_line-2.ensures
