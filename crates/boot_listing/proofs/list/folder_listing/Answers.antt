use Rattle.std.proofs.Common.{◌≡◌, ◌∙◌, ◌==◌, ◌++◌, ap, codes, string_bytes, string_len}
use Rattle.boot_listing.specs.List.{TellsVariables}
use Rattle.boot_listing.specs.Refusal.{refusal_line}
use Rattle.boot_listing.specs.private.Appending.{AppendsSome}
use Rattle.boot_listing.proofs.Listings.{nothing_told, something_told}
use Rattle.boot_listing.proofs.list.folder_listing.Goals as goal

pub returns-then-is_empty : goal.returns-then-is_empty
returns-then-is_empty g c =
    let told : AppendsSome (TellsVariables c.args.form c.args.files.now) c.new-text.result c.push_variables.new.text =
    c.in_ok-push_variables.ensures in
    let tested : c.is_empty.result ≡ (string_len c.push_variables.new.text == 0) = c.is_empty.ensures in
    let nothing = nothing_told c.args.form c.args.files.now _ (string_bytes c.push_variables.new.text) told.0 _ _ c.new-text.ensures.bytes
    c.push_variables.new.text.bytes.ok.0 tested c.if-is_empty.true told.1 told.2 in
    (nothing.0, c.in_ok-push_refusal.ensures ∙ ap (λ text. text ++ refusal_line c.args.form (codes "refused NoBootVariable")) nothing.1)

pub returns : goal.returns
returns g c =
    let told : AppendsSome (TellsVariables c.args.form c.args.files.now) c.new-text.result c.push_variables.new.text =
    c.in_ok-push_variables.ensures in
    let tested : c.is_empty.result ≡ (string_len c.push_variables.new.text == 0) = c.is_empty.ensures in
    something_told c.args.form c.args.files.now _ (string_bytes c.push_variables.new.text) told.0 _ _ c.new-text.ensures.bytes
    c.push_variables.new.text.bytes.ok.0 tested c.if-is_empty.false told.1 told.2
