use Rattle.std.proofs.Common.{◌++◌, ◌∙◌, ap, append_assoc, refl, string_bytes}
use Rattle.uefi_tcg.specs.LogViews.{entry_of}
use Rattle.audit_text.specs.text.Events.{IsEventBlock, first_line}
use Rattle.audit_text.proofs.words.Events.{all_shown, none_yet, one_more}
use Rattle.audit_text.proofs.text.events.blocks.push_event_blocks.Goals as goal

pub loop-index-init : goal.loop-index-init
loop-index-init c = none_yet _ _ _

pub loop-index-preserved : goal.loop-index-preserved
loop-index-preserved c =
    let first = first_line c.args.name.now c.loop-index.index (entry_of c.index-entries-index.result) in
    let body = c.in_ok-push_body.ensures in
    one_more (IsEventBlock c.args.uintn_size c.args.name.now) c.args.entries.now _ (string_bytes c.loop-index.text) _
    c.loop-index.index c.index-entries-index.result c.loop-index-test.true c.index-entries-index.is (
      first ++ body.0,
      (body.0, body.1, refl),
      body.2 ∙ ap (λ t. t ++ body.0) c.in_ok-push_first_line.ensures ∙ append_assoc (string_bytes c.loop-index.text) first body.0,
    )
    c.loop-index.invariant

pub returns : goal.returns
returns c =
    all_shown (IsEventBlock c.args.uintn_size c.args.name.now) c.args.entries.now _ _ c.loop-index.index c.loop-index-test.false
    c.loop-index.invariant
