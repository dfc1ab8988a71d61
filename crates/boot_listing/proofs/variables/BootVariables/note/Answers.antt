use Rattle.std.proofs.Common.{◌∙◌, ◌<◌, ◌^◌, ℕ, List, [], ◌∷◌, ◌++◌, ap, length, subst, arith, sym, Some}
use Rattle.std.proofs.lemmas.List.{get_or_default}
use Rattle.boot_listing.specs.Variables.{IsVariable}
use Rattle.boot_listing.specs.private.Found.{IsFound}
use Rattle.boot_listing.specs.declared.variables.BootVariable.{BootVariable}
use Rattle.boot_listing.specs.declared.variables.Found.TheVariants.{Nothing}
use Rattle.boot_listing.specs.declared.variables.BootVariable.TheVariants.{BootOption}
use Rattle.boot_listing.proofs.Noting.{IsRead, current_noted, order_noted, option_noted}
use Rattle.boot_listing.proofs.variables.BootVariables.note.Goals as goal

pub returns-in-Some-BootCurrent-clause-each : goal.returns-in-Some-BootCurrent-clause-each
returns-in-Some-BootCurrent-clause-each g c variable valid files before =
    let file = c.args.file.now in
    let read = c.of_file.result in
    let is : IsRead file read variable = rw c.as_str.ensures.value at c.of_file.ensures.variable variable valid in
    let read_so = c.in-Some-BootCurrent.is ∙ ap Some c.in-Some-BootCurrent.field-0-is in
    current_noted c.args.self.now file read c.and-self.result variable files is read_so before
    (λ all now. subst (λ (bytes : List ℕ). IsFound (all ++ bytes ∷ []) c.and-self.result) c.as_slice-bytes.ensures.value (c.and-self.ensures all now))

pub returns-in-Some-BootOrder-clause-each : goal.returns-in-Some-BootOrder-clause-each
returns-in-Some-BootOrder-clause-each g c variable valid files before =
    let file = c.args.file.now in
    let read = c.of_file.result in
    let is : IsRead file read variable = rw c.as_str.ensures.value at c.of_file.ensures.variable variable valid in
    let read_so = c.in-Some-BootOrder.is ∙ ap Some c.in-Some-BootOrder.field-0-is in
    order_noted c.args.self.now file read c.and-self-in-Some-BootOrder.result variable files is read_so before
    (λ all now. subst (λ (bytes : List ℕ). IsFound (all ++ bytes ∷ []) c.and-self-in-Some-BootOrder.result) c.as_slice-bytes.ensures.value (c.and-self-in-Some-BootOrder.ensures all now))

pub returns-in-Some-BootOption-clause-each : goal.returns-in-Some-BootOption-clause-each
returns-in-Some-BootOption-clause-each g c variable valid files before =
    let file = c.args.file.now in
    let read = c.of_file.result in
    let number = c.from-number.result in
    let items = c.args.self.now.options.items in
    let is : IsRead file read variable = rw c.as_str.ensures.value at c.of_file.ensures.variable variable valid in
    let noted = c.in-Some-BootOption.field-0-is ∙ ap (λ (n : ℕ). BootOption n) (sym c.from-number.ensures) in
    let small : number < 2 ^ 16 = subst IsVariable noted c.in-Some-BootOption.ensures.valid in
    let within : number < length items = omega (arith, small, c.requires) in
    let stored = c.index.ensures ∙ get_or_default items number c.index.result.now Nothing within in
    option_noted c.args.self.now file read number c.and.result variable files is
    (c.in-Some-BootOption.is ∙ ap (λ (it : BootVariable). Some it) noted) within before
    (λ all now. subst (λ (bytes : List ℕ). IsFound (all ++ bytes ∷ []) c.and.result) c.as_slice-bytes.ensures.value
    (c.and.ensures all (subst (IsFound all) (sym stored) now)))
