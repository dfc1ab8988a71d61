use Rattle.std.proofs.Common.{refl, rules}
use Rattle.std.specs.Prelude.{codes}
use Rattle.uefi_path.specs.Views.{path_nodes}
use Rattle.boot_listing.specs.Text.{texts_of}
use Rattle.boot_listing.specs.Refusal.{refusal_line}
use Rattle.boot_listing.proofs.text.push_path_text_listing.Goals as goal

pub returns-in_ok-push_path_text-in-Ok : goal.returns-in_ok-push_path_text-in-Ok
returns-in_ok-push_path_text-in-Ok g c =
    let read = c.in-Ok.ensures.ok in
    let nodes = path_nodes c.in-Ok.path in
    let grown = c.in_ok-push_path_text-in-Ok.ensures in (
      texts_of c.args.form grown.0,
      (nodes, grown.0, record { path = read.0; stands = read.1; instances = grown.1; lines = refl }),
      grown.2,
    )

pub returns-in_ok-push_refusal-in-Err-InvalidLength : goal.returns-in_ok-push_refusal-in-Err-InvalidLength
returns-in_ok-push_refusal-in-Err-InvalidLength g c =
    (refusal_line c.args.form (codes "refused InvalidLength"), (search rules, refl), c.in_ok-push_refusal-in-Err-InvalidLength.ensures)
