use Rattle.std.proofs.Common.{[], ◌∷◌, ◌++◌, ◌∙◌, ap, arith, refl, length}
use Rattle.std.proofs.lemmas.Result.{err_from_is_err_and}
use Rattle.uefi_path.specs.Node.{end_entire}
use Rattle.uefi_path_text.specs.private.TextNodes.{text_node}
use Rattle.uefi_path_text.specs.private.TextPaths.{HasTextFault}
use Rattle.uefi_path_text.proofs.reading.TextPaths.{first_taken, then_taken, none_before, before_push, node_fits, none_after_end, text_fault, text_ended, text_ends, sum_push, other_node}
use Rattle.uefi_path_text.proofs.parse.path.path_len.Goals as goal

pub loop-node-init : goal.loop-node-init
loop-node-init c =
    let made = c.new-nodes.ensures in (
      ([], first_taken c.args.text.now c.new-nodes.result.rest.now c.new-nodes.result.place made.rest made.place, none_before, refl),
      omega (arith, made.offset, ap length made.rest),
    )

pub returns-in_err-end-clause-wrong : goal.returns-in_err-end-clause-wrong
returns-in_err-end-clause-wrong c =
    let state = c.loop-node.invariant in
    let takes = rw c.in-Some.is at c.in_ok-node.ensures.node in
    let entire = c.is_end_entire.ensures.end.0 c.if-is_end_entire.true in
    let none = none_after_end c.args.text.now c.loop-node.nodes.rest.now c.next.new.self.rest.now c.loop-node.nodes.place
    state.0.0 (text_node c.in-Some.node) state.0.1 takes entire state.0.2 c.in_err-end.ensures.some in
    let fault : HasTextFault c.args.text.now c.in_err-end.field-0.0 =
    text_fault c.args.text.now c.next.new.self.rest.now c.next.new.self.offset c.in_err-end.field-0.0 none
    (c.in_ok-node.ensures.offset ∙ state.1) c.in_err-end.ensures.fault in
    let passed_on = err_from_is_err_and c.from_residual-in_err-end.result c.from_residual-in_err-end.ensures.1 in
    rw (passed_on.1, passed_on.2) fault

pub returns-then-is_end_entire-clause-length : goal.returns-then-is_end_entire-clause-length
returns-then-is_end_entire-clause-length c =
    let state = c.loop-node.invariant in
    let takes = rw c.in-Some.is at c.in_ok-node.ensures.node in
    let entire = c.is_end_entire.ensures.end.0 c.if-is_end_entire.true in (
      state.0.0 ++ text_node c.in-Some.node ∷ [],
      record {
        text_of = text_ended c.args.text.now c.loop-node.nodes.rest.now c.next.new.self.rest.now c.loop-node.nodes.place
            state.0.0 (text_node c.in-Some.node) state.0.1 takes entire c.in_ok-end.ensures.end state.0.2;
        length = sum_push state.0.0 (text_node c.in-Some.node) c.loop-node.size c.size.result c.saturating_add-size.result
            state.0.3 c.size.ensures c.saturating_add-size.ensures;
      },
    )

pub loop-node-preserved : goal.loop-node-preserved
loop-node-preserved c =
    let state = c.loop-node.invariant in
    let takes = rw c.in-Some.is at c.in_ok-node.ensures.node in
    let place = rw c.in-Some.is at c.in_ok-node.ensures.place in
    let other = other_node c.is_end_entire.result c.is_end_entire.ensures.end.1 c.if-is_end_entire.false in (
      (
        state.0.0 ++ text_node c.in-Some.node ∷ [],
        then_taken c.args.text.now c.loop-node.nodes.rest.now c.next.new.self.rest.now c.loop-node.nodes.place
            c.next.new.self.place state.0.0 (text_node c.in-Some.node) state.0.1 takes place,
        before_push state.0.0 (text_node c.in-Some.node) state.0.2 (node_fits _ takes.short c.is_end_entire.ensures.numbers) other,
        sum_push state.0.0 (text_node c.in-Some.node) c.loop-node.size c.size.result c.saturating_add-size.result
            state.0.3 c.size.ensures c.saturating_add-size.ensures,
      ),
      c.in_ok-node.ensures.offset ∙ state.1,
    )

pub returns-clause-length : goal.returns-clause-length
returns-clause-length c =
    let state = c.loop-node.invariant in
    let none = rw c.in_default.is at c.in_ok-node.ensures.end in (
      state.0.0 ++ end_entire ∷ [],
      record {
        text_of = text_ends c.args.text.now c.loop-node.nodes.rest.now c.loop-node.nodes.place state.0.0 state.0.1 none state.0.2;
        length = sum_push state.0.0 end_entire c.loop-node.size 4 c.saturating_add.result state.0.3 refl c.saturating_add.ensures;
      },
    )
