use Rattle.std.proofs.Common.{◌∙◌, [], Bor, List, get_or, map, rules, ℕ}
use Rattle.audit_text.proofs.text.Lines.{not_pushed, only_more, pushed}
use Rattle.audit_text.proofs.text.diff.change.lines.lines_only.Goals as goal
use Rattle.audit_text.proofs.text.diff.change.lines.lines_only.Goals.{then-not-contains+in_ok-push, else-not-contains}

pub loop-line-preserved : goal.loop-line-preserved
loop-line-preserved c =
    let none : Bor (List ℕ) = record { ref_ptr = (0, 0); now = [] } in
    let index = c.loop-line.line-index in
    let item = get_or c.args.lines.now index none in
    let others = map (λ line. line.now) c.args.others.now in
    let only = c.loop-line.only.items in
    let among = c.contains.ensures ∙ c.in_ok-others.ensures item.now in
    elim c.if-not-contains.branch [
      | then-not-contains+in_ok-push w ↦ only_more others c.args.lines.now index none c.contains.result
          (map (λ line. line.now) only) _ c.loop-line-test.true among c.loop-line.invariant
          (pushed only c.if-not-contains.only.items item c.contains.result (search rules) w.if-not-contains.true)
      | else-not-contains w ↦ only_more others c.args.lines.now index none c.contains.result
          (map (λ line. line.now) only) _ c.loop-line-test.true among c.loop-line.invariant
          (not_pushed only c.if-not-contains.only.items item c.contains.result (search rules) w.if-not-contains.false)
    ]
