use Rattle.std.proofs.Common.{◌∙◌, [], Bor, List, ap, cond, get_or, true, ℕ}
use Rattle.std.specs.BTreeSet.{contains_by}
use Rattle.std.specs.Cmp.Lexicographic.{slice_cmp}
use Rattle.std.specs.Ordering.{nat_cmp}
use Rattle.std.proofs.lemmas.Map.Text.{is_eq-slice_cmp}
use Rattle.audit_text.proofs.text.Lines.{one_more}
use Rattle.audit_text.proofs.text.diff.change.lines.set_of.Goals as goal

pub loop-line-preserved : goal.loop-line-preserved
loop-line-preserved c = λ line.
    let none : Bor (List ℕ) = record { ref_ptr = (0, 0); now = [] } in
    let index = c.loop-line.line-index in
    let had = contains_by (λ it. slice_cmp nat_cmp line it.now) c.loop-line.set in
    one_more c.args.lines.now index none line had _ c.loop-line-test.true
    (c.in_ok-insert.ensures.updates.0 (record { ref_ptr = (0, 0); now = line })
    ∙ ap (λ same. cond same true had) (is_eq-slice_cmp (get_or c.args.lines.now index none).now line)) (c.loop-line.invariant line)
