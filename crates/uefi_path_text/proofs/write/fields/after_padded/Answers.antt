use Rattle.std.proofs.Common.{arith}
use Rattle.uefi_path_text.specs.private.Found.{found_bytes}
use Rattle.uefi_path_text.proofs.Found.{padded_after}
use Rattle.uefi_path_text.proofs.write.fields.after_padded.Goals as goal

pub returns : goal.returns
returns c =
    padded_after (found_bytes c.args.value.now) c.args.rest.now c.in_ok-more.more.now c.min.result c.after_front.result
    (grind (arith, c.min.ensures, c.len.ensures)) c.in_ok-more.ensures c.after_front.ensures
