use Rattle.std.proofs.Common.{[], ◌∷◌, ◌++◌, ◌∙◌, ap, arith, refl, length}
use Rattle.uefi_path.specs.Node.{end_entire}
use Rattle.uefi_path_text.specs.private.TextNodes.{text_node}
use Rattle.uefi_path_text.proofs.reading.OnePath.{one_path_of_text}
use Rattle.uefi_path_text.proofs.reading.TextPaths.{first_taken, then_taken, next_taken, none_before, before_push, node_fits, path_ended, text_ends, taken_within, length_push, node_put, path_put, not_err, not_wrong, end_within, other_node}
use Rattle.uefi_path_text.proofs.parse.path.put_path.Goals as goal

pub loop-node-init : goal.loop-node-init
loop-node-init c =
    let made = c.new-nodes.ensures in (
      ([], first_taken c.args.text.now c.new-nodes.result.rest.now c.new-nodes.result.place made.rest made.place, none_before, refl, refl),
      omega (arith, made.offset, ap length made.rest),
    )

pub put-end-requires-clause-room : goal.put-end-requires-clause-room
put-end-requires-clause-room c =
    let state = c.loop-node.invariant in
    let takes = rw (c.unwrap.ensures, c.in-Some.is) at c.next.ensures.node in
    let node = text_node c.in-Some.node in
    let taken = next_taken c.args.text.now c.loop-node.nodes.rest.now c.next.new.self.rest.now c.loop-node.nodes.place
    state.0.0 node state.0.1 takes in
    let within = taken_within c.args.text.now c.next.new.self.rest.now _ (state.0.0 ++ node ∷ []) c.requires.0 taken c.requires.1 in
    omega (arith, within, length_push state.0.0 node, c.requires.2, c.loop-node.auto.buffer, state.0.3)

pub returns-then-is_end_entire : goal.returns-then-is_end_entire
returns-then-is_end_entire c nodes is =
    let state = c.loop-node.invariant in
    let takes = rw (c.unwrap.ensures, c.in-Some.is) at c.next.ensures.node in
    let entire = c.is_end_entire.ensures.end.0 c.if-is_end_entire.true in
    let within = taken_within c.args.text.now c.loop-node.nodes.rest.now c.loop-node.nodes.place state.0.0 c.requires.0
    state.0.1 c.requires.1 in
    let same = path_ended c.args.text.now c.loop-node.nodes.rest.now c.next.new.self.rest.now c.loop-node.nodes.place
    state.0.0 (text_node c.in-Some.node) state.0.1 takes entire state.0.2 nodes is in
    path_put state.0.0 nodes (text_node c.in-Some.node) c.loop-node.end c.args.buffer.now c.loop-node.buffer
    c.put-end.new.buffer same state.0.3 state.0.4 (omega (arith, within, c.requires.2, state.0.3)) c.put-end.ensures.written

pub loop-node-preserved : goal.loop-node-preserved
loop-node-preserved c =
    let state = c.loop-node.invariant in
    let node = text_node c.in-Some.node in
    let takes = rw (c.unwrap.ensures, c.in-Some.is) at c.next.ensures.node in
    let place = rw (c.unwrap.ensures, c.in-Some.is) at c.next.ensures.place in
    let other = other_node c.is_end_entire.result c.is_end_entire.ensures.end.1 c.if-is_end_entire.false in
    let within = taken_within c.args.text.now c.loop-node.nodes.rest.now c.loop-node.nodes.place state.0.0 c.requires.0
    state.0.1 c.requires.1 in (
      (
        state.0.0 ++ node ∷ [],
        then_taken c.args.text.now c.loop-node.nodes.rest.now c.next.new.self.rest.now c.loop-node.nodes.place
            c.next.new.self.place state.0.0 node state.0.1 takes place,
        before_push state.0.0 node state.0.2 (node_fits _ takes.short c.is_end_entire.ensures.numbers) other,
        omega (arith, c.put-end.ensures.end, state.0.3, length_push state.0.0 node),
        node_put state.0.0 node c.loop-node.end c.args.buffer.now c.loop-node.buffer c.put-end.new.buffer state.0.3 state.0.4
            (omega (arith, within, c.requires.2, state.0.3)) c.put-end.ensures.written,
      ),
      c.next.ensures.offset ∙ state.1,
    )

pub unwrap-requires : goal.unwrap-requires
unwrap-requires c =
    let state = c.loop-node.invariant in
    not_err c.next.result c.next.ensures.wrong
    (not_wrong c.args.text.now c.loop-node.nodes.rest.now c.loop-node.nodes.place state.0.0 c.requires.0 state.0.1 c.requires.1)

pub put-requires : goal.put-requires
put-requires c =
    let state = c.loop-node.invariant in
    let none = rw (c.unwrap.ensures, c.in_default.is) at c.next.ensures.end in
    let within = end_within c.args.text.now c.loop-node.nodes.rest.now c.loop-node.nodes.place state.0.0 c.requires.0 state.0.1 none state.0.2
    c.requires.1 in
    omega (arith, within, c.requires.2, c.loop-node.auto.buffer, state.0.3)

pub returns : goal.returns
returns c nodes is =
    let state = c.loop-node.invariant in
    let none = rw (c.unwrap.ensures, c.in_default.is) at c.next.ensures.end in
    let within = taken_within c.args.text.now c.loop-node.nodes.rest.now c.loop-node.nodes.place state.0.0 c.requires.0
    state.0.1 c.requires.1 in
    let ended = text_ends c.args.text.now c.loop-node.nodes.rest.now c.loop-node.nodes.place state.0.0 state.0.1 none state.0.2 in
    path_put state.0.0 nodes end_entire c.loop-node.end c.args.buffer.now c.loop-node.buffer c.put.new.buffer
    (one_path_of_text nodes (state.0.0 ++ end_entire ∷ []) c.args.text.now is ended) state.0.3 state.0.4
    (omega (arith, within, c.requires.2, state.0.3)) c.put.ensures
