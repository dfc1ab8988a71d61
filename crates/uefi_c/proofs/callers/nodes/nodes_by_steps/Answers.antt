use Rattle.uefi_path.specs.Node.{IsEnd, IsEndEntire}
use Rattle.uefi_c.proofs.PathSteps.{ends_paths, ends_instances, one_less, none_left}
use Rattle.uefi_c.proofs.callers.nodes.nodes_by_steps.Goals as goal

pub loop-node-preserved : goal.loop-node-preserved
loop-node-preserved g c =
    let new = c.uefi_path_next_node.new in
    let next = c.uefi_path_next_node.ensures.node c.loop-node-test.true in (
      λ nodes is encoded.
          one_less IsEndEntire ends_paths c.args.path.now c.loop-node.offset new.offset new.out next nodes
          c.loop-node.views.items
          c.push.new.self.items c.in_ok-push.ensures.items (c.loop-node.invariant.0 nodes is encoded),
      λ nodes is encoded.
          one_less IsEnd ends_instances c.args.path.now c.loop-node.offset new.offset new.out next nodes
          c.loop-node.views.items
          c.push.new.self.items c.in_ok-push.ensures.items (c.loop-node.invariant.1 nodes is encoded),
    )

pub returns-clause-path : goal.returns-clause-path
returns-clause-path g c = λ nodes is encoded.
    none_left IsEndEntire ends_paths c.args.path.now c.loop-node.offset nodes c.loop-node.views.items
    (c.uefi_path_next_node.ensures.none c.loop-node-test.false)
    (c.loop-node.invariant.0 nodes is encoded)

pub returns-clause-instance : goal.returns-clause-instance
returns-clause-instance g c = λ nodes is encoded.
    none_left IsEnd ends_instances c.args.path.now c.loop-node.offset nodes c.loop-node.views.items
    (c.uefi_path_next_node.ensures.none c.loop-node-test.false)
    (c.loop-node.invariant.1 nodes is encoded)
