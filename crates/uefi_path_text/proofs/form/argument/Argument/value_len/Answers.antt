use Rattle.std.proofs.Common.{◌∙◌, sym}
use Rattle.uefi_path_text.proofs.arguments.TextLengths.{length_in}
use Rattle.uefi_path_text.proofs.form.argument.Argument.value_len.Goals as goal

pub returns : goal.returns
returns c = c.length_of_text.ensures ∙ sym (length_in c.args.self c.args.text.now c.requires)
