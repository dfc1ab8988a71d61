use Rattle.std.proofs.Common.{◌∙◌, ap, refl, rules}
use Rattle.std.specs.Prelude.{codes}
use Rattle.uefi_hii.specs.Pairs.{pairs}
use Rattle.uefi_hii.specs.Cut.{results_of}
use Rattle.uefi_listing.specs.Config.{result_lines}
use Rattle.uefi_listing.proofs.config.push_config_listing.Goals as goal

pub returns-in_ok-push_configurations-in-Ok : goal.returns-in_ok-push_configurations-in-Ok
returns-in_ok-push_configurations-in-Ok g c =
    let grown = c.in_ok-push_configurations-in-Ok.ensures in
    let whole = grown.1 ∙ c.new.ensures.pairs ∙ ap pairs c.in-Ok.ensures.cases.0 in (
      result_lines (results_of grown.0),
      (grown.0, record { is_text = c.in-Ok.ensures.cases.1; cut = record { whole = whole; each = grown.2 }; lines = refl }),
      grown.3,
    )

pub returns-in_ok-writeln-in-Err : goal.returns-in_ok-writeln-in-Err
returns-in_ok-writeln-in-Err g c =
    (codes "refused NotUtf8\n", (search rules, refl), c.in_ok-writeln-in-Err.ensures.bytes)
