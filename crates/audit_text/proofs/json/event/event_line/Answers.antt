use Rattle.std.proofs.lemmas.Result.{IfOk-weaker}
use Rattle.uefi_tcg.specs.LogViews.{entry_of}
use Rattle.uefi_audits.specs.content.Views.{content_of}
use Rattle.audit_text.specs.json.Event.{event_json}
use Rattle.audit_text.proofs.json.event.event_line.Goals as goal

pub returns : goal.returns
returns c =
    let content = content_of c.read_content-content.result in
    IfOk-weaker c.line_of.result _ _ (λ line is. (content, c.read_content-content.ensures, is))
    (c.line_of.ensures (event_json c.args.log.now c.args.index (entry_of c.args.entry.now) content) c.in_ok-value.ensures)
