use Rattle.uefi_path.proofs.Building as proved
use Rattle.uefi_path.proofs.laws.built_paths.Goals as goal

pub returns : goal.returns
returns c = proved.built_paths
