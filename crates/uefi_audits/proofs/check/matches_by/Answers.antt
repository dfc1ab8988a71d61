use Rattle.std.proofs.Common.{◌≡◌, ◌∙◌, ◌↔◌, IsTrue, ap, subst, sym}
use Rattle.std.specs.Prelude.{false}
use Rattle.tcg_event.specs.Views.{variable_of}
use Rattle.uefi_tcg.specs.LogViews.{event_of}
use Rattle.uefi_audits.specs.Check.{MatchesBy, widened}
use Rattle.uefi_audits.specs.declared.check.form.Form.{Form}
use Rattle.uefi_audits.proofs.Matching.{by_closed, by_command, by_data, by_narrowed, by_no_command, by_no_text, by_no_value, by_not_narrowed, by_text, by_value}
use Rattle.uefi_audits.proofs.check.matches_by.Goals as goal

pub returns-in-Data : goal.returns-in-Data
returns-in-Data g c =
    subst (λ (form : Form). IsTrue c.are_hashes.result ↔ MatchesBy (event_of c.args.event.now) form) (sym c.in-Data.is)
    (by_data (event_of c.args.event.now) c.event_data-data.result.now c.are_hashes.result c.event_data-data.ensures c.are_hashes.ensures)

pub returns-in-WithNul : goal.returns-in-WithNul
returns-in-WithNul g c =
    let found = c.are_hashes-in-WithNul in
    let whole = c.event_data-data in
    subst (λ (form : Form). IsTrue c.are_hashes-in-WithNul.result ↔ MatchesBy (event_of c.args.event.now) form)
    (sym c.in-WithNul.is)
    (by_closed (event_of c.args.event.now) whole.result.now found.result whole.ensures found.ensures)

pub returns-in-Some : goal.returns-in-Some
returns-in-Some g c =
    subst (λ (form : Form). IsTrue c.are_hashes-in-Some.result ↔ MatchesBy (event_of c.args.event.now) form)
    (sym c.in-VariableValue.is)
    (by_value (event_of c.args.event.now) c.event_data-data.result.now (variable_of c.in-Some.variable)
    c.are_hashes-in-Some.result c.one_value.ensures.variable c.event_data-data.ensures c.in-Some.ensures
    c.are_hashes-in-Some.ensures)

pub returns-in-VariableValue : goal.returns-in-VariableValue
returns-in-VariableValue g c =
    subst (λ (form : Form). IsTrue false ↔ MatchesBy (event_of c.args.event.now) form) (sym c.in-VariableValue.is)
    (by_no_value (event_of c.args.event.now) c.event_data-data.result.now c.event_data-data.ensures c.in-None.ensures)

pub returns-in-Some-without_nul : goal.returns-in-Some-without_nul
returns-in-Some-without_nul g c =
    subst (λ (form : Form). IsTrue c.are_hashes-in-Some-without_nul.result ↔ MatchesBy (event_of c.args.event.now) form)
    (sym c.in-WithoutNul.is)
    (by_text (event_of c.args.event.now) c.event_data-data.result.now c.in-Some-without_nul.text.now c.are_hashes-in-Some-without_nul.result
    c.event_data-data.ensures c.in-Some-without_nul.ensures c.are_hashes-in-Some-without_nul.ensures)

pub returns-in-WithoutNul : goal.returns-in-WithoutNul
returns-in-WithoutNul g c =
    subst (λ (form : Form). IsTrue false ↔ MatchesBy (event_of c.args.event.now) form) (sym c.in-WithoutNul.is)
    (by_no_text (event_of c.args.event.now) c.event_data-data.result.now c.event_data-data.ensures c.in-None-without_nul.ensures)

pub returns-in-Some-command_in : goal.returns-in-Some-command_in
returns-in-Some-command_in g c =
    subst (λ (form : Form). IsTrue c.are_hashes-in-Some-command_in.result ↔ MatchesBy (event_of c.args.event.now) form)
    (sym c.in-Command.is)
    (by_command (event_of c.args.event.now) c.event_data-data.result.now c.in-Some-command_in.command.now
    c.are_hashes-in-Some-command_in.result c.event_data-data.ensures c.in-Some-command_in.ensures
    c.are_hashes-in-Some-command_in.ensures)

pub returns-in-Command : goal.returns-in-Command
returns-in-Command g c =
    subst (λ (form : Form). IsTrue false ↔ MatchesBy (event_of c.args.event.now) form) (sym c.in-Command.is)
    (by_no_command (event_of c.args.event.now) c.event_data-data.result.now c.event_data-data.ensures
    c.in-None-command_in.ensures)

pub returns-in-Some-2 : goal.returns-in-Some-2
returns-in-Some-2 g c =
    let wide : c.event_data-data.result.now ≡ widened c.in-Some-2.bytes.items =
    rw c.in-Some-2.is at c.in_ok-bytes-in-Narrowed.ensures in
    subst (λ (form : Form). IsTrue c.are_hashes-in-Some-2.result ↔ MatchesBy (event_of c.args.event.now) form)
    (sym c.in-Narrowed.is)
    (by_narrowed (event_of c.args.event.now) c.event_data-data.result.now c.as_slice.result.now
    c.are_hashes-in-Some-2.result c.event_data-data.ensures (wide ∙ ap widened (sym c.as_slice.ensures.value))
    c.are_hashes-in-Some-2.ensures)

pub returns : goal.returns
returns g c =
    subst (λ (form : Form). IsTrue false ↔ MatchesBy (event_of c.args.event.now) form) (sym c.in-Narrowed.is)
    (by_not_narrowed (event_of c.args.event.now) c.event_data-data.result.now c.event_data-data.ensures
    (rw c.in-None-2.is at c.in_ok-bytes-in-Narrowed.ensures))
