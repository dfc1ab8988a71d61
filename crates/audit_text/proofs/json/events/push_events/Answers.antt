use Rattle.std.proofs.Common.{◌++◌, refl, string_bytes}
use Rattle.std.specs.Prelude.{codes}
use Rattle.audit_text.specs.json.Events.{IsWholeLine}
use Rattle.audit_text.proofs.words.Events.{all_shown, none_yet, one_more}
use Rattle.audit_text.proofs.json.events.push_events.Goals as goal

pub loop-index-init : goal.loop-index-init
loop-index-init c = none_yet _ _ _

pub loop-index-preserved : goal.loop-index-preserved
loop-index-preserved c =
    one_more (IsWholeLine c.args.uintn_size c.args.name.now) c.args.entries.now _ (string_bytes c.loop-index.text) _
    c.loop-index.index c.index-entries-index.result c.loop-index-test.true c.index-entries-index.is (
      string_bytes c.in_ok-line.line ++ codes "\n",
      (string_bytes c.in_ok-line.line, c.in_ok-line.ensures, refl),
      c.in_ok-writeln.ensures.bytes,
    ) c.loop-index.invariant

pub returns : goal.returns
returns c =
    all_shown (IsWholeLine c.args.uintn_size c.args.name.now) c.args.entries.now _ _ c.loop-index.index c.loop-index-test.false
    c.loop-index.invariant
