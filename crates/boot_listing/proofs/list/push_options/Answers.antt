use Rattle.std.proofs.Common.{◌∙◌, ℕ, ◌+◌, ◌<◌, ◌^◌, List, drop, get_or, string_bytes, subst, sym, ap, refl, arith}
use Rattle.std.proofs.Math.ListN.{drop_of_length-le}
use Rattle.std.proofs.lemmas.List.{get_or_default}
use Rattle.boot_listing.specs.List.{TellsOptions}
use Rattle.boot_listing.specs.Variables.{files_of}
use Rattle.boot_listing.specs.private.Found.{IsFound}
use Rattle.boot_listing.specs.declared.variables.BootVariable.TheVariants.{BootOption}
use Rattle.boot_listing.specs.declared.variables.Found.TheVariants.{Nothing}
use Rattle.boot_listing.proofs.Listings.{one_option_more, no_option_left, option_at}
use Rattle.boot_listing.proofs.list.push_options.Goals as goal

pub loop-number-init : goal.loop-number-init
loop-number-init g c files finds rest tells = (rest, tells, refl)

pub loop-number-preserved : goal.loop-number-preserved
loop-number-preserved g c files finds =
    let numbers = c.as_slice-number-items.result.now in
    let i = c.loop-number.number-index in
    let options = c.args.found.now.options.items in
    let number = get_or numbers i 0 in
    let small : number < 2 ^ 16 = omega (arith, c.type_inv.number-items i) in
    let files_of_it = files_of (BootOption number) files in
    let read = c.index-files.ensures
    ∙ get_or_default options c.from.result c.index-files.result.now Nothing (omega (arith, small, c.from.ensures, finds.count))
    ∙ ap (λ (k : ℕ). get_or options k Nothing) c.from.ensures in
    let told = c.in_ok-push_option.ensures files_of_it (subst (IsFound files_of_it) (sym read) (finds.each (BootOption number) small)) in
    one_option_more c.args.form files numbers (drop i numbers) (drop (i + 1) numbers) number (string_bytes c.args.text.now)
    (string_bytes c.loop-number.text) (string_bytes c.push_option.new.text) told.0
    (option_at numbers i c.loop-number-test.true) told.1 told.2 (c.loop-number.invariant files finds)

pub returns : goal.returns
returns g c files finds =
    let numbers = c.as_slice-number-items.result.now in
    let all = c.as_slice-number-items.ensures.value ∙ c.in_ok-numbers.ensures files finds in
    let whole = no_option_left c.args.form files numbers (drop c.loop-number.number-index numbers) (string_bytes c.args.text.now)
    (string_bytes c.loop-number.text) (drop_of_length-le numbers c.loop-number-test.false)
    (c.loop-number.invariant files finds) in
    (whole.0, subst (λ (all : List ℕ). TellsOptions c.args.form files all whole.0) all whole.1, whole.2)
