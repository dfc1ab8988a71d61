use Rattle.std.proofs.Common.{◌∙◌, ◌++◌, ap, string_bytes, ℕ, List, refl}
use Rattle.uefi_path.specs.LoadOptionViews.{load_option_of}
use Rattle.boot_listing.specs.Option.{load_option_text, fault_of}
use Rattle.boot_listing.specs.Refusal.{refusal_line}
use Rattle.boot_listing.proofs.option.push_load_option_listing.Goals as goal

pub returns-in_ok-push_load_option-in-Ok : goal.returns-in_ok-push_load_option-in-Ok
returns-in_ok-push_load_option-in-Ok g c =
    let read = c.in-Ok.ensures.ok in
    let option = load_option_of c.in-Ok.option in (
      load_option_text c.args.form option,
      (option, record { fits = read.0; stands = read.1; lines = refl }),
      c.in_ok-push_load_option-in-Ok.ensures,
    )

pub returns-in_ok-push_refusal-in-Err : goal.returns-in_ok-push_refusal-in-Err
returns-in_ok-push_refusal-in-Err g c =
    let error = c.in-Err.error in (
      refusal_line c.args.form (fault_of error),
      (error, record { none = c.in-Err.ensures.none; fault = c.in-Err.ensures.err; line = refl }),
      c.in_ok-push_refusal-in-Err.ensures
          ∙ ap (λ (fault : List ℕ). string_bytes c.args.text.now ++ refusal_line c.args.form fault) c.fault_of.ensures,
    )
