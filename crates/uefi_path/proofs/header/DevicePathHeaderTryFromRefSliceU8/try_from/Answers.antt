use Rattle.std.proofs.Common.{◌∙◌, arith}
use Rattle.uefi_path.proofs.Nodes.{header_prefix, two_bytes_of_length}
use Rattle.uefi_path.proofs.header.DevicePathHeaderTryFromRefSliceU8.try_from.Goals as goal

pub returns : goal.returns
returns c =
    let bytes = c.args.bytes.now in
    record {
      ok = header_prefix bytes c.u16_at.result (λ i. omega (arith, c.type_inv.bytes i)) (omega arith)
          (c.u16_at.ensures ∙ two_bytes_of_length bytes);
      err = tt;
    }
