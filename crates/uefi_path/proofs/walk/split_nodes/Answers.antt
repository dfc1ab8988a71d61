use Rattle.std.proofs.Common.{◌≡◌, ◌-◌, ◌<◌, true, false, length, subst, MatchOption}
use Rattle.std.specs.List.{IsSplitAt}
use Rattle.uefi_path.specs.private.Encoding.{EncodesNodes}
use Rattle.std.proofs.lemmas.Result.{MatchResult-from_err}
use Rattle.uefi_path.specs.private.Stop.{Stops}
use Rattle.uefi_path.specs.Views.{node_of}
use Rattle.uefi_path.proofs.Passing.{ok_front, passed_more, passed_end, passed_nowhere}
use Rattle.uefi_path.proofs.walk.split_nodes.Goals as goal

pub returns-in_err-node-clause-none : goal.returns-in_err-node-clause-none
returns-in_err-node-clause-none c =
    MatchResult-from_err c.from_residual.result (λ _. Unit {0}) _ c.from_residual.ensures.0
    (λ _. passed_nowhere (Stops c.args.stop) c.args.bytes.now c.loop-node.rest.now c.loop-node.invariant
    c.in_err-node.ensures.none)

pub returns-then-stops_at-clause-nodes : goal.returns-then-stops_at-clause-nodes
returns-then-stops_at-clause-nodes c =
    let P = Stops c.args.stop in
    let bytes = c.args.bytes.now in
    let after = c.in_ok-node.after.now in
    ok_front (λ p. p.0.now) (λ p. p.1.now) (EncodesNodes P) bytes (length bytes - length after) c.ok_or.result
    (subst (λ s. MatchOption s (length bytes < length bytes - length after)
    (λ p. IsSplitAt bytes (length bytes - length after) p.0.now p.1.now)) c.ok_or.ensures.ok_part
    c.split_at_checked.ensures.cases)
    (passed_end P bytes c.loop-node.rest.now after (node_of c.in_ok-node.node) c.loop-node.invariant
    c.in_ok-node.ensures.fits (c.stops_at.ensures.0 c.if-stops_at.true) c.in_ok-node.ensures.split)

pub loop-node-preserved : goal.loop-node-preserved
loop-node-preserved c =
    passed_more (Stops c.args.stop) c.args.bytes.now c.loop-node.rest.now c.in_ok-node.after.now
    (node_of c.in_ok-node.node) c.loop-node.invariant c.in_ok-node.ensures.fits
    (λ so. let stopped : false ≡ true = c.if-stops_at.ensures.1 so in cc)
    c.in_ok-node.ensures.split
