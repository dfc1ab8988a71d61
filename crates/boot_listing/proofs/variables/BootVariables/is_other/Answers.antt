use Rattle.std.proofs.Common.{◌∙◌, arith, sym, subst}
use Rattle.std.proofs.lemmas.List.{get_or_default}
use Rattle.boot_listing.specs.Variables.{files_of}
use Rattle.boot_listing.specs.private.Found.{IsFound}
use Rattle.boot_listing.specs.declared.variables.BootVariable.TheVariants.{BootOption}
use Rattle.boot_listing.specs.declared.variables.Found.TheVariants.{Nothing}
use Rattle.boot_listing.proofs.Numbers.{other_by_file}
use Rattle.boot_listing.proofs.variables.BootVariables.is_other.Goals as goal

pub returns-then-not-is_ordered-index : goal.returns-then-not-is_ordered-index
returns-then-not-is_ordered-index g c files order finds marks =
    let index = c.args.index in
    let read = c.index.ensures
    ∙ get_or_default c.args.self.now.options.items index c.index.result.now Nothing (omega (arith, c.requires.number, c.requires.count)) in
    other_by_file files order index c.is_there.result (sym (marks.each index c.requires.number) ∙ c.if-not-is_ordered-index.true)
    (c.is_there.ensures (files_of (BootOption index) files)
    (subst (IsFound (files_of (BootOption index) files)) (sym read) (finds.each (BootOption index) c.requires.number)))
