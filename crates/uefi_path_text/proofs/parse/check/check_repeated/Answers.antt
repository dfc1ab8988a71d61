use Rattle.std.proofs.Common.{[], ◌∙◌, ap}
use Rattle.std.specs.Prelude.{is_some}
use Rattle.uefi_path_text.specs.parse.Arguments.{repeated_values}
use Rattle.uefi_path_text.specs.private.FromText.{rest_parts}
use Rattle.uefi_path_text.proofs.reading.ArgumentLists.{some_repeated}
use Rattle.uefi_path_text.proofs.parse.check.check_repeated.Goals as goal

pub returns-in-Some-texts-clause-read : goal.returns-in-Some-texts-clause-read
returns-in-Some-texts-clause-read c =
    some_repeated c.args.kind [] c.args.texts c.in-Some-texts.field-0 c.in-Some-texts.is
    (c.loop-rest.invariant.0 ∙ ap (λ o. is_some (repeated_values c.args.kind (rest_parts 0x2c o))) c.in_default.is)
