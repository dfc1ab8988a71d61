use Rattle.std.proofs.Common.{◌∙◌, ap, ap₂, List, ℕ}
use Rattle.std.specs.Prelude.{◌-◌, length, take}
use Rattle.uefi_audits.specs.diff.Counterparts.{named}
use Rattle.uefi_audits.proofs.diff.names.variable_name.Goals as goal

pub returns : goal.returns
returns c =
    c.new.ensures
    ∙ ap₂ named c.first_bytes.ensures
    (c.first_bytes-2.ensures ∙ ap (λ count. take count c.bytes_after-rest.result.now) c.saturating_sub-length.ensures
    ∙ ap (λ (rest : List ℕ). take (length rest - length c.args.variable.now.data.now) rest) c.bytes_after-rest.ensures)
