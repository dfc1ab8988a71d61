use Rattle.std.proofs.Common.{ap, take, ◌∙◌}
use Rattle.uefi_path_text.proofs.arguments.Lengths.{take-bytes_low_first}
use Rattle.uefi_path_text.proofs.parse.value.put_number.Goals as goal

pub returns : goal.returns
returns c = c.copy_from_slice.ensures.after ∙ (ap (take c.args.size) c.to_le_bytes.ensures ∙ take-bytes_low_first 0 c.args.size 8 c.args.number c.requires.few)
