use Rattle.std.proofs.Common.{◌≡◌, map, take}
use Rattle.audit_text.specs.text.ChangeParts.{lines_only}
use Rattle.audit_text.proofs.text.diff.change.lines.lines_only.Given as goal

-- They are those of the lines so far.
abbrev pub invariant-loop-line : goal.invariant-loop-line
invariant-loop-line l =
    map (λ line. line.now) l.only.items
    ≡ lines_only (map (λ line. line.now) l.fn.others) (map (λ line. line.now) (take l.line-index l.lines))
