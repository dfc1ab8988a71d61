use Rattle.std.proofs.Common.{◌≡◌, ◌∙◌, true, false, sym}
use Rattle.uefi_path.specs.Node.{IsEnd}
use Rattle.uefi_path.specs.Views.{node_of}
use Rattle.uefi_path.proofs.Passing.{passed_more, passed_end, passed_nowhere}
use Rattle.uefi_c.proofs.path.first_instance.Goals as goal

pub returns-in_default-clause-none : goal.returns-in_default-clause-none
returns-in_default-clause-none c = λ _.
    passed_nowhere IsEnd c.args.bytes.now c.loop-node.rest.now c.loop-node.invariant c.in_default.ensures.none

pub returns-in_default-clause-fault : goal.returns-in_default-clause-fault
returns-in_default-clause-fault c =
    let passed = c.loop-node.invariant in
    record {
      rest = c.loop-node.rest.now;
      nodes = passed.0;
      fit = passed.1.each;
      go_on = passed.1.none;
      split = passed.1.split;
      fault = c.node_fault.ensures;
    }

pub returns-then-is_end-clause-instance : goal.returns-then-is_end-clause-instance
returns-then-is_end-clause-instance c =
    rw c.split_at.ensures.front
    (passed_end IsEnd c.args.bytes.now c.loop-node.rest.now c.in-Some.after.now (node_of c.in-Some.node)
    c.loop-node.invariant
    c.in-Some.ensures.fits (c.is_end.ensures.0 c.if-is_end.true) c.in-Some.ensures.split)

pub loop-node-preserved : goal.loop-node-preserved
loop-node-preserved c =
    passed_more IsEnd c.args.bytes.now c.loop-node.rest.now c.in-Some.after.now (node_of c.in-Some.node)
    c.loop-node.invariant
    c.in-Some.ensures.fits (λ so. let stopped : false ≡ true = sym c.if-is_end.false ∙ c.is_end.ensures.1 so in cc) c.in-Some.ensures.split
