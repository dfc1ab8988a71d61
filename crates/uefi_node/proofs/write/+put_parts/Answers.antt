use Rattle.uefi_node.proofs.Parts.{first_then}
use Rattle.uefi_node.proofs.write.+put_parts.Goals as goal

pub returns-in-len1-up : goal.returns-in-len1-up
returns-in-len1-up t c =
    first_then c.args.parts.now _ c.args.buffer.now _ _ c.args.offset c.in-len1-up.len_at_least c.requires
    c.put.ensures c.put_parts.ensures
