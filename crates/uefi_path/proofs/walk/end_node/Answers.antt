use Rattle.std.proofs.Common.{◌≡◌, [], true, false, refl}
use Rattle.uefi_path.specs.private.Stop.{Stops}
use Rattle.uefi_path.specs.Views.{node_of}
use Rattle.uefi_path.proofs.Passing.{HasNodes-after, passed_more, passed_end_node}
use Rattle.uefi_path.proofs.Steps.{HasNodes-node, HasNodes-encoded}
use Rattle.uefi_path.proofs.walk.end_node.Goals as goal

pub loop-after-init : goal.loop-after-init
loop-after-init c = record {
  passed = ([], record { each = tt; none = tt; split = refl });
  left = HasNodes-encoded (Stops c.args.stop) c.args.bytes.now c.requires.0 c.requires.1;
}

pub first_node-requires : goal.first_node-requires
first_node-requires c = HasNodes-node (Stops c.args.stop) c.loop-after.rest.now c.loop-after.invariant.left

pub returns-then-stops_at : goal.returns-then-stops_at
returns-then-stops_at c nodes encodes =
    passed_end_node (Stops c.args.stop) c.args.bytes.now c.loop-after.rest.now c.first_node.result.1.now
    (node_of c.first_node.result.0) nodes c.loop-after.invariant.passed c.first_node.ensures.fits
    (c.stops_at.ensures.0 c.if-stops_at.true) c.first_node.ensures.split encodes

pub loop-after-preserved : goal.loop-after-preserved
loop-after-preserved c =
    let P = Stops c.args.stop in
    let rest = c.loop-after.rest.now in
    let after = c.first_node.result.1.now in
    let node = node_of c.first_node.result.0 in
    let goes_on = λ (so : Stops c.args.stop (node_of c.first_node.result.0)). let stopped : false ≡ true =
    c.if-stops_at.ensures.1 so in absurd (cc) in
    record {
      passed = passed_more P c.args.bytes.now rest after node c.loop-after.invariant.passed c.first_node.ensures.fits
          goes_on c.first_node.ensures.split;
      left = HasNodes-after P rest after node c.loop-after.invariant.left c.first_node.ensures.fits goes_on
          c.first_node.ensures.split;
    }
