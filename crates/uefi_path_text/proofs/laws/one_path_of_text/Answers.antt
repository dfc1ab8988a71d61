use Rattle.uefi_path_text.proofs.reading.OnePath as proofs
use Rattle.uefi_path_text.proofs.laws.one_path_of_text.Goals as goal

pub returns : goal.returns
returns c = proofs.one_path_of_text
