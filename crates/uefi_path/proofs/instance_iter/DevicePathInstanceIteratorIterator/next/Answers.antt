use Rattle.std.proofs.Common.{◌≡◌, [], ◌++◌, ap, length, arith, rules, ◌<◌}
use Rattle.uefi_path.specs.Node.{IsEnd}
use Rattle.uefi_path.specs.Views.{instances_left}
use Rattle.uefi_path.specs.private.Encoding.{EncodesNodes, HasNodes}
use Rattle.uefi_path.proofs.Steps.{none_left, after_instance, next_instance, of_none, of_value}
use Rattle.uefi_path.proofs.instance_iter.DevicePathInstanceIteratorIterator.next.Goals as goal
use Rattle.uefi_path.proofs.instance_iter.DevicePathInstanceIteratorIterator.next.Goals.{In_ok-instance}

-- What was split off is an instance.
encodes : (c : In_ok-instance) → EncodesNodes IsEnd c.in_ok-instance.instance.now
encodes c =
    of_value (λ r. EncodesNodes IsEnd r.0.now) c.split_nodes.result (c.in_ok-instance.instance, c.in_ok-instance.after)
    c.in_ok-instance.ensures.value c.split_nodes.ensures.nodes

split : (c : In_ok-instance) → c.args.self.now.rest.now ≡ c.in_ok-instance.instance.now ++ c.in_ok-instance.after.now
split c =
    of_value (λ r. c.args.self.now.rest.now ≡ r.0.now ++ r.1.now) c.split_nodes.result
    (c.in_ok-instance.instance, c.in_ok-instance.after) c.in_ok-instance.ensures.value c.split_nodes.ensures.split

pub returns-in_err-instance-clause-steps : goal.returns-in_err-instance-clause-steps
returns-in_err-instance-clause-steps c =
    let iter = c.args.self.now in
    let none : ¬ HasNodes IsEnd iter.rest.now =
    of_none (¬ HasNodes IsEnd iter.rest.now) c.split_nodes.result c.in_err-instance.ensures.value c.split_nodes.ensures.none in
    let left : instances_left iter ≡ [] = none_left iter.instances.1 none in
    search rules

pub new-requires : goal.new-requires
new-requires c =
    let at = (goal.at.new-requires c).In_ok-instance in
    after_instance c.in_ok-instance.instance.now c.in_ok-instance.after.now c.args.self.now.instances.1 (encodes at) (split at)

pub returns-clause-steps : goal.returns-clause-steps
returns-clause-steps c =
    let at = (goal.at.returns-clause-steps c).In_ok-instance in
    next_instance c.args.self.now.instances.1 c.new_unchecked.ensures (split at) c.new.ensures.instances

pub returns-clause-goes : goal.returns-clause-goes
returns-clause-goes c =
    let fewer : length (instances_left c.new.result) < length (instances_left c.args.self.now) =
    omega (arith, ap length (returns-clause-steps c)) in
    search rules
