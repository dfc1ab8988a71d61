use Rattle.std.proofs.Common.{◌≡◌, ◌∙◌, ◌++◌, ap, sym, arith}
use Rattle.uefi_base.specs.Buffer.{put_prefix}
use Rattle.uefi_path.specs.Node.{encoding, end_entire, joined}
use Rattle.uefi_path.specs.Path.{all_but_last}
use Rattle.uefi_c.specs.Path.{node_seen}
use Rattle.uefi_c.specs.PathWrite.{with_node}
use Rattle.uefi_c.proofs.PathWritten.{node_parts, three_put}
use Rattle.uefi_c.proofs.path_write.uefi_path_append_node.Goals as goal

pub returns-clause-written : goal.returns-clause-written
returns-clause-written c = λ _ nodes begins.
    let buffer = c.args.buffer.now in
    let node = node_seen c.args.node.now in
    let front = c.nodes-nodes.result.now in
    let is_front : front ≡ joined (all_but_last nodes) =
    c.nodes-nodes.ensures ∙ ap (λ ns. joined (all_but_last ns)) (sym (c.in-Ok.ensures.only nodes begins.0 begins.1)) in
    let parts : (front ++ encoding node) ++ encoding end_entire ≡ joined (with_node nodes node) =
    ap (λ x. (x ++ encoding node) ++ encoding end_entire) is_front ∙ node_parts nodes node in
    three_put front (encoding node) (encoding end_entire) buffer c.put.new.buffer c.put_node.new.buffer c.put_end.new.buffer _
    (omega (arith, c.in-Some.ensures.length)) (omega (arith, c.in-Some.ensures.length)) c.put.ensures c.put_node.ensures c.put_end.ensures
    ∙ ap (λ part. put_prefix part buffer) parts
