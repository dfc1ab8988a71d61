use Rattle.std.proofs.Common.{ap, not, ◌∙◌}
use Rattle.uefi_path_text.proofs.arguments.Groups.{not_last}
use Rattle.uefi_path_text.proofs.parse.ipv6.read_last.Goals as goal

pub returns-in-Ok-2-clause-err : goal.returns-in-Ok-2-clause-err
returns-in-Ok-2-clause-err c _ =
    not_last c.args.text.now c.cut.result.0.now c.cut.result.1 c.cut.ensures c.requires (c.is_none.ensures ∙ ap not c.if-is_none.false)
