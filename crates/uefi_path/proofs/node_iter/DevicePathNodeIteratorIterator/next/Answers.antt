use Rattle.std.proofs.Common.{◌≡◌, [], ◌∷◌, ◌++◌, true, false, rules}
use Rattle.uefi_path.specs.Node.{Fits, HasNode, encoding}
use Rattle.uefi_path.specs.private.Stop.{Stops}
use Rattle.uefi_path.specs.Views.{node_of, nodes_left}
use Rattle.uefi_path.proofs.Steps.{HasNodes-node, HasNodes-encoded, none_before_end, after_node, next_node, of_none, of_value}
use Rattle.uefi_path.proofs.node_iter.DevicePathNodeIteratorIterator.next.Goals as goal
use Rattle.uefi_path.proofs.node_iter.DevicePathNodeIteratorIterator.next.Goals.{In_ok-node}

-- What was split off is a node.
fits : (c : In_ok-node) → Fits (node_of c.in_ok-node.node)
fits c =
    of_value (λ r. Fits (node_of r.0)) c.split_node.result (c.in_ok-node.node, c.in_ok-node.after)
    c.in_ok-node.ensures.value c.split_node.ensures.fits

split : (c : In_ok-node) → c.args.self.now.rest.now ≡ encoding (node_of c.in_ok-node.node) ++ c.in_ok-node.after.now
split c =
    of_value (λ r. c.args.self.now.rest.now ≡ encoding (node_of r.0) ++ r.1.now) c.split_node.result
    (c.in_ok-node.node, c.in_ok-node.after) c.in_ok-node.ensures.value c.split_node.ensures.split

pub returns-in_err-node-clause-steps : goal.returns-in_err-node-clause-steps
returns-in_err-node-clause-steps c =
    let iter = c.args.self.now in
    let has : HasNode iter.rest.now =
    HasNodes-node (Stops iter.stop) iter.rest.now
    (HasNodes-encoded (Stops iter.stop) iter.rest.now iter.nodes.0 iter.nodes.1) in
    absurd (of_none (¬ HasNode iter.rest.now) c.split_node.result c.in_err-node.ensures.value c.split_node.ensures.none has)

pub returns-then-stops_at-clause-steps : goal.returns-then-stops_at-clause-steps
returns-then-stops_at-clause-steps c =
    let iter = c.args.self.now in
    let at = (goal.at.returns-then-stops_at-clause-steps c).In_ok-node in
    let none : nodes_left iter ≡ [] =
    none_before_end c.in_ok-node.after.now iter.nodes.1 (fits at) (c.stops_at.ensures.0 c.if-stops_at.true) (split at) in
    (none, none)

pub new-requires : goal.new-requires
new-requires c =
    let at = (goal.at.new-requires c).In_ok-node in
    after_node c.in_ok-node.after.now c.args.self.now.nodes.1 (fits at)
    (λ so. let stopped : false ≡ true = c.if-stops_at.ensures.1 so in cc) (split at)

pub returns-clause-steps : goal.returns-clause-steps
returns-clause-steps c =
    let at = (goal.at.returns-clause-steps c).In_ok-node in
    next_node c.args.self.now.nodes.1 (fits at)
    (λ so. let stopped : false ≡ true = c.if-stops_at.ensures.1 so in cc) (split at) c.new.ensures.nodes

pub returns-clause-goes : goal.returns-clause-goes
returns-clause-goes c =
    let first : nodes_left c.args.self.now ≡ node_of c.in_ok-node.node ∷ nodes_left c.new.result =
    returns-clause-steps c in
    search rules
