use Rattle.std.proofs.Common.{arith}
use Rattle.std.proofs.lemmas.Grind.{common_steps}
use Rattle.uefi_listing.proofs.command.command_and_file.Goals as goal

pub returns-in_err-command_alone-in-len2-clause-other_words :
    goal.returns-in_err-command_alone-in-len2-clause-other_words
returns-in_err-command_alone-in-len2-clause-other_words c = grind (arith, common_steps)

pub returns-in_err-command_with-in-len3-clause-other_words :
    goal.returns-in_err-command_with-in-len3-clause-other_words
returns-in_err-command_with-in-len3-clause-other_words c = grind (arith, common_steps)

pub returns-in_ok-command_alone-in-len2-clause-asked : goal.returns-in_ok-command_alone-in-len2-clause-asked
returns-in_ok-command_alone-in-len2-clause-asked c = grind (arith, common_steps)

pub returns-in_ok-command_with-in-len3-clause-asked : goal.returns-in_ok-command_with-in-len3-clause-asked
returns-in_ok-command_with-in-len3-clause-asked c = grind (arith, common_steps)

pub returns-in_default-clause-other_words : goal.returns-in_default-clause-other_words
returns-in_default-clause-other_words c = grind (arith, common_steps)
