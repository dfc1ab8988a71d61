use Rattle.uefi_path_text.proofs.arguments.Numerals.{greatest_of_bytes}
use Rattle.uefi_path_text.proofs.parse.argument.most.Goals as goal

pub returns : goal.returns
returns c = greatest_of_bytes c.args.size c.requires.some c.requires.few
