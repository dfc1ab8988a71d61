use Rattle.std.proofs.Common.{◌≡◌, ◌∙◌, ap, inl, inr, sym}
use Rattle.std.specs.Prelude.{false, true}
use Rattle.uefi_tcg.specs.LogViews.{event_of}
use Rattle.uefi_audits.specs.Check.{may_describe}
use Rattle.uefi_audits.proofs.Commands.{names_file}
use Rattle.uefi_audits.proofs.check.may_measure_other.Goals as goal

pub returns-then-eq : goal.returns-then-eq
returns-then-eq c =
    let names = names_file (event_of c.args.event.now) c.event_type-else-may_describe.result.0 c.event_data.result.now
    c.command_in.result c.is_none.result c.event_type-else-may_describe.ensures (sym c.eq.ensures ∙ c.if-eq.true)
    c.event_data.ensures c.command_in.ensures c.is_none.ensures in
    let describes_not = sym (c.may_describe.ensures ∙ ap may_describe c.event_type.ensures) ∙ c.if-may_describe.false in (
      (λ so. inr (names.0 so)),
      (λ may. elim may [
        | inl describes ↦ let h : true ≡ false = sym describes ∙ describes_not in cc
        | inr named ↦ names.1 named
      ]),
    )
