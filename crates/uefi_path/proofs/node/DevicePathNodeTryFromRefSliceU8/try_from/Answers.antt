use Rattle.std.proofs.Common.{sym, ◌∙◌}
use Rattle.uefi_path.specs.private.OneNode.{one_encoding}
use Rattle.uefi_path.specs.Views.{node_of}
use Rattle.uefi_path.proofs.node.DevicePathNodeTryFromRefSliceU8.try_from.Goals as goal

pub returns : goal.returns
returns c =
    let read = c.in_ok-node.ensures in
    let after = c.in_ok-node.field-0-1.now in
    record {
      ok = (read.fits, (after, read.split));
      only = λ node fits prefix. (one_encoding node (node_of c.in_ok-node.node) prefix.0 after fits read.fits
          (sym prefix.1 ∙ read.split)).0;
      err = tt;
    }
