use Rattle.std.proofs.Common.{◌∙◌, [], ◌∷◌, ◌++◌, ap, sym, refl, true}
use Rattle.uefi_path.specs.Views.{node_of, nodes_left}
use Rattle.uefi_path_text.proofs.PathTexts.{none_written, next_written, end_written, no_end_written}
use Rattle.uefi_path_text.proofs.text.path_text.write_nodes.Goals as goal

pub loop-node-init : goal.loop-node-init
loop-node-init g c plain =
    none_written g.W.Write.write_str_gives c.args.f.now c.args.style _ _
    (ap (λ it. nodes_left it ++ (node_of c.args.end.now ∷ [])) c.into_iter-node-iterator.ensures.into_iter_gives) plain

pub loop-node-preserved : goal.loop-node-preserved
loop-node-preserved g c plain =
    let before = c.loop-node.invariant plain in
    rw c.is_plain_end-is_first.ensures
    (next_written g.W.Write.write_str_gives c.args.f.now c.loop-node.f c.write_next.new.f c.args.style _
    (nodes_left c.next.new.self) (node_of c.in-Some.node) (node_of c.args.end.now) c.loop-node.is_first
    (rw c.in-Some.ensures.steps at before) (c.in_ok-write_next.ensures before.written.plain (refl {a = true})))

pub returns-in_ok-write_next-2 : goal.returns-in_ok-write_next-2
returns-in_ok-write_next-2 g c plain ok =
    let before = c.loop-node.invariant plain in
    end_written g.W.Write.write_str_gives c.args.f.now c.loop-node.f c.write_next-then-is_shown_end.new.f c.args.style _
    (node_of c.args.end.now) c.loop-node.is_first (rw c.in-None.ensures.steps.0 at before)
    (sym c.is_shown_end.ensures ∙ c.if-is_shown_end.true)
    (c.in_ok-write_next-2.ensures before.written.plain (refl {a = true}))

pub returns-else-is_shown_end : goal.returns-else-is_shown_end
returns-else-is_shown_end g c plain ok =
    let before = c.loop-node.invariant plain in
    no_end_written g.W.Write.write_str_gives c.args.f.now c.loop-node.f c.args.style _
    (node_of c.args.end.now) c.loop-node.is_first (rw c.in-None.ensures.steps.0 at before)
    (sym c.is_shown_end.ensures ∙ c.if-is_shown_end.false)
