use Rattle.std.proofs.Common.{◌≡◌, ℕ, List, map, take}
use Rattle.std.specs.BTreeSet.{contains_by}
use Rattle.std.specs.Cmp.Lexicographic.{slice_cmp}
use Rattle.std.specs.Ordering.{nat_cmp}
use Rattle.audit_text.specs.text.ChangeParts.{is_among}
use Rattle.audit_text.proofs.text.diff.change.lines.set_of.Given as goal

-- The set has the lines so far.
abbrev pub invariant-loop-line : goal.invariant-loop-line
invariant-loop-line l =
    (line : List ℕ) → contains_by (λ it. slice_cmp nat_cmp line it.now) l.set
    ≡ is_among (map (λ it. it.now) (take l.line-index l.lines)) line
