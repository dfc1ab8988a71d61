use Rattle.uefi_path_text.specs.private.FormViews.{parameter_of}
use Rattle.uefi_path_text.proofs.reading.ArgumentLists.{too_many_texts}
use Rattle.uefi_path_text.proofs.parse.check.+check_listed.Goals as goal

pub returns-in-Some-texts-clause-read : goal.returns-in-Some-texts-clause-read
returns-in-Some-texts-clause-read t c =
    too_many_texts parameter_of c.args.parameters.now c.args.texts c.in-Some-texts.field-0 (c.in_default.ensures.cases)
    c.in-Some-texts.is
