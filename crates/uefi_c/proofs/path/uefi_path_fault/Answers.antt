use Rattle.std.proofs.Common.{◌≡◌, ◌-◌, ◌∙◌, true, false, sym, refl, length, take, arith}
use Rattle.uefi_path.specs.Node.{IsEndEntire}
use Rattle.uefi_path.specs.Views.{node_of}
use Rattle.uefi_path.specs.private.Encoding.{EncodesPath}
use Rattle.uefi_path.proofs.Passing.{passed_more, passed_end, passed_nowhere}
use Rattle.uefi_c.proofs.PathFaults.{begins_with, ends_there, fault_is_not_ok, meets_fault}
use Rattle.uefi_c.proofs.path.uefi_path_fault.Goals as goal
use Rattle.uefi_c.proofs.path.uefi_path_fault.Goals.{Then-is_end_entire}

-- The nodes up to the end-entire one encode a path.
whole : (c : Then-is_end_entire)
    → EncodesPath (take (length c.args.path.now - length c.in-Some.after.now) c.args.path.now)
whole c =
    passed_end IsEndEntire c.args.path.now c.loop-node.rest.now c.in-Some.after.now (node_of c.in-Some.node)
    c.loop-node.invariant c.in-Some.ensures.fits (c.is_end_entire.ensures.0 c.if-is_end_entire.true)
    c.in-Some.ensures.split

pub returns-in_default-clause-found : goal.returns-in_default-clause-found
returns-in_default-clause-found c = (
  λ is_ok. absurd (fault_is_not_ok _ _ c.node_fault.ensures is_ok),
  λ has. absurd (passed_nowhere IsEndEntire c.args.path.now c.loop-node.rest.now c.loop-node.invariant
      c.in_default.ensures.none has),
)

pub returns-in_default-clause-fault : goal.returns-in_default-clause-fault
returns-in_default-clause-fault c = λ _.
    meets_fault c.args.path.now c.loop-node.rest.now c.node_fault.result c.loop-node.invariant c.node_fault.ensures

pub returns-then-is_end_entire-clause-found : goal.returns-then-is_end_entire-clause-found
returns-then-is_end_entire-clause-found c =
    let encodes = whole (goal.at.returns-then-is_end_entire-clause-found c).Then-is_end_entire in
    let begins = begins_with c.args.path.now (length c.args.path.now - length c.in-Some.after.now) encodes in
    (λ _. (encodes.0, begins.0, begins.1), λ _. refl)

pub returns-then-is_end_entire-clause-end : goal.returns-then-is_end_entire-clause-end
returns-then-is_end_entire-clause-end c = λ _ nodes begins.
    let encodes = whole (goal.at.returns-then-is_end_entire-clause-end c).Then-is_end_entire in
    ends_there c.args.path.now (length c.args.path.now - length c.in-Some.after.now) (omega arith) encodes nodes begins

pub loop-node-preserved : goal.loop-node-preserved
loop-node-preserved c =
    passed_more IsEndEntire c.args.path.now c.loop-node.rest.now c.in-Some.after.now (node_of c.in-Some.node)
    c.loop-node.invariant c.in-Some.ensures.fits
    (λ so. let stopped : false ≡ true = sym c.if-is_end_entire.false ∙ c.is_end_entire.ensures.1 so in cc)
    c.in-Some.ensures.split
