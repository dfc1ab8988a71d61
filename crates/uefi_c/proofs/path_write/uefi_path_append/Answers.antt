use Rattle.std.proofs.Common.{◌≡◌, ◌∙◌, ◌++◌, ap, sym, arith}
use Rattle.uefi_base.specs.Buffer.{put_prefix}
use Rattle.uefi_path.specs.Node.{joined}
use Rattle.uefi_path.specs.Path.{all_but_last}
use Rattle.uefi_c.specs.PathWrite.{with_path}
use Rattle.uefi_c.proofs.PathWritten.{path_parts, two_put}
use Rattle.uefi_c.proofs.path_write.uefi_path_append.Goals as goal

pub returns-clause-written : goal.returns-clause-written
returns-clause-written c = λ _ nodes others first second.
    let buffer = c.args.buffer.now in
    let front = c.nodes-nodes.result.now in
    let back = c.as_bytes-others.result.now in
    let is_front : front ≡ joined (all_but_last nodes) =
    c.nodes-nodes.ensures ∙ ap (λ ns. joined (all_but_last ns)) (sym (c.in-Ok.ensures.only nodes first.0 first.1)) in
    let is_back : back ≡ joined others =
    c.as_bytes-others.ensures.bytes ∙ ap joined (sym (c.in-Ok-try_from.ensures.only others second.0 second.1)) in
    let parts : front ++ back ≡ joined (with_path nodes others) =
    (λ i. is_front i ++ is_back i) ∙ path_parts nodes others in
    two_put front back buffer c.put.new.buffer c.put-2.new.buffer (omega arith) c.put.ensures c.put-2.ensures
    ∙ ap (λ part. put_prefix part buffer) parts
