use Rattle.std.proofs.Common.{◌∙◌, ℕ, List, ◌++◌, ap, sym}
use Rattle.boot_listing.specs.Variables.{global_variable}
use Rattle.boot_listing.proofs.Names.{file_with_guid, file_without_guid}
use Rattle.boot_listing.proofs.variables.BootVariable.of_file.Goals as goal

pub returns-in-Some-clause-variable : goal.returns-in-Some-clause-variable
returns-in-Some-clause-variable c variable valid =
    let cut = c.in-Some.ensures.cases in
    let is = cut.1.1 ∙ ap (λ (t : List ℕ). t ++ global_variable) (sym cut.2) in
    let file = file_with_guid c.args.name.now c.in-Some.front.now variable is in
    let named = c.named.ensures.variable variable valid in
    (λ so. named.0 (file.0 so), λ so. file.1 (named.1 so))

pub returns-in-None-clause-variable : goal.returns-in-None-clause-variable
returns-in-None-clause-variable c variable valid =
    let file = file_without_guid c.args.name.now variable c.in-None.ensures.cases in
    let named = c.named-in-None.ensures.variable variable valid in
    (λ so. named.0 (file.0 so), λ so. file.1 (named.1 so))
