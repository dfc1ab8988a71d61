use Rattle.std.proofs.Common.{◌≡◌, ℕ, List, ◌∙◌, ◌+◌, ◌++◌, ap, arith, length}
use Rattle.uefi_base.specs.Buffer.{put_at}
use Rattle.uefi_base.proofs.Parts.{put_next}
use Rattle.uefi_path.specs.Header.{header, header_bytes}
use Rattle.uefi_c.proofs.path_write.put_node.Goals as goal

pub returns : goal.returns
returns c =
    let node = c.args.node.now in
    let rest = c.args.node_data.now in
    let offset = c.args.offset in
    let buffer = c.args.buffer.now in
    let head : List ℕ → List ℕ = λ r. header_bytes (header node.device_type node.sub_type (4 + length r)) in
    let made : c.to_bytes.result ≡ head rest = c.to_bytes.ensures ∙ ap header_bytes c.new.ensures in
    c.put-2.ensures ∙ ap (put_at (offset + 4) rest) (c.put.ensures ∙ ap (λ h. put_at offset h buffer) made)
    ∙ put_next offset (head rest) rest buffer (omega (arith, c.requires.room, ap length c.requires.bytes))
    ∙ ap (λ r. put_at offset (head r ++ r) buffer) c.requires.bytes
