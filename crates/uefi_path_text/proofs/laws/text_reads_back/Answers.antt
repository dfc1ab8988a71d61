use Rattle.uefi_path_text.proofs.reading.NodeReads.{path_text_reads_back}
use Rattle.uefi_path_text.proofs.laws.text_reads_back.Goals as goal

pub returns : goal.returns
returns c = path_text_reads_back
