use Rattle.std.proofs.Common.{◌∙◌, ◌++◌, ap, string_bytes, List, ℕ, codes, inl, inr, refl, subst, Option}
use Rattle.std.proofs.lemmas.Result.{on_ok_weaker}
use Rattle.uefi_path.specs.LoadOptionViews.{load_option_of}
use Rattle.boot_listing.specs.List.{TellsValue, boot_option_text, fault_line}
use Rattle.boot_listing.specs.Option.{fault_of}
use Rattle.boot_listing.specs.declared.variables.BootVariable.TheVariants.{BootOption}
use Rattle.boot_listing.proofs.list.push_option_value.Goals as goal

pub returns-in_default : goal.returns-in_default
returns-in_default g c =
    let line = fault_line c.args.form (BootOption c.args.number) (codes "refused NoAttributes") in
    on_ok_weaker c.push_fault.result
    (λ grown. (line, subst (λ (value : Option (List ℕ)). TellsValue c.args.form c.args.number value line) c.in_default.ensures refl, grown))
    c.push_fault.ensures

pub returns-in-Err : goal.returns-in-Err
returns-in-Err g c =
    let number = c.args.number in
    let error = c.in-Err.error in
    let line = fault_line c.args.form (BootOption number) (fault_of error) in
    on_ok_weaker c.push_fault-in-Err.result
    (λ grown. (
      line,
      subst (λ (value : Option (List ℕ)). TellsValue c.args.form number value line) c.in-Some.ensures
          (inr (error, record { none = c.in-Err.ensures.none; fault = c.in-Err.ensures.err; line = refl })),
      grown ∙ ap (λ (fault : List ℕ). string_bytes c.args.text.now ++ fault_line c.args.form (BootOption number) fault) c.fault_of.ensures,
    ))
    c.push_fault-in-Err.ensures

pub returns-in-Ok : goal.returns-in-Ok
returns-in-Ok g c =
    let number = c.args.number in
    let read = c.in-Ok.ensures.ok in
    let option = load_option_of c.in-Ok.option in
    on_ok_weaker c.push_boot_option.result
    (λ grown. (
      boot_option_text c.args.form number option,
      subst (λ (value : Option (List ℕ)). TellsValue c.args.form number value (boot_option_text c.args.form number option)) c.in-Some.ensures
          (inl (option, record { fits = read.0; stands = read.1; lines = refl })),
      grown,
    ))
    c.push_boot_option.ensures
