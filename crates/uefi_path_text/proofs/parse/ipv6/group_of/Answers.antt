use Rattle.uefi_path_text.proofs.arguments.Groups.{no_number}
use Rattle.uefi_path_text.proofs.parse.ipv6.group_of.Goals as goal

pub returns-in-Err-clause-none : goal.returns-in-Err-clause-none
returns-in-Err-clause-none c = no_number c.args.part.now c.in-Err.ensures.err
