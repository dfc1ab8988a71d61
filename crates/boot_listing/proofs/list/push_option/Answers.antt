use Rattle.std.proofs.Common.{List, ℕ, codes, refl, subst, sym}
use Rattle.std.proofs.lemmas.Result.{on_ok_weaker}
use Rattle.boot_listing.specs.List.{TellsOption, fault_line}
use Rattle.boot_listing.specs.private.Found.{IsFound}
use Rattle.boot_listing.specs.declared.variables.BootVariable.TheVariants.{BootOption}
use Rattle.boot_listing.proofs.Listings.{tells_twice}
use Rattle.boot_listing.proofs.list.push_option.Goals as goal

pub returns-in-Nothing : goal.returns-in-Nothing
returns-in-Nothing g c =
    let line = fault_line c.args.form (BootOption c.args.number) (codes "missing") in
    on_ok_weaker c.push_fault.result
    (λ grown files found. (
      line,
      subst (λ (all : List (List ℕ)). TellsOption c.args.form c.args.number all line) (sym (subst (IsFound files) c.in-Nothing.is found)) refl,
      grown,
    ))
    c.push_fault.ensures

pub returns-in-Twice : goal.returns-in-Twice
returns-in-Twice g c =
    on_ok_weaker c.push_fault-in-Twice.result
    (λ grown files found. (
      fault_line c.args.form (BootOption c.args.number) (codes "twice"),
      tells_twice c.args.form c.args.number files _ (subst (IsFound files) c.in-Twice.is found) refl,
      grown,
    ))
    c.push_fault-in-Twice.ensures

pub returns-in-Once : goal.returns-in-Once
returns-in-Once g c =
    on_ok_weaker c.push_option_value.result
    (λ grown files found. (
      grown.0,
      subst (λ (all : List (List ℕ)). TellsOption c.args.form c.args.number all grown.0) (sym (subst (IsFound files) c.in-Once.is found)) grown.1,
      grown.2,
    ))
    c.push_option_value.ensures
