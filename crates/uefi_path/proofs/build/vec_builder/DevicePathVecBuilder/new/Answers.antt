use Rattle.std.proofs.Common.{[], rules}
use Rattle.uefi_path.specs.private.Encoding.{IsEncodingBefore}
use Rattle.uefi_path.proofs.Building.{none_encoded, these_nodes}
use Rattle.uefi_path.proofs.build.vec_builder.DevicePathVecBuilder.new.Goals as goal

pub returns : goal.returns
returns g c =
    let encodes : IsEncodingBefore [] [] = none_encoded [] in
    search (rules, these_nodes)
