use Rattle.tcg_event.specs.Views.{variable_of}
use Rattle.uefi_c.proofs.EventBytes.{name_within, name_there, variable_there}
use Rattle.uefi_c.proofs.event_data.variable.uefi_variable.Goals as goal

pub units_at-requires : goal.units_at-requires
units_at-requires c =
    name_within c.args.event_data.now (variable_of c.in-Some.variable) c.in-Some.ensures _ c.len.ensures

pub returns-clause-variable : goal.returns-clause-variable
returns-clause-variable c =
    variable_there c.args.event_data.now (variable_of c.in-Some.variable) c.in-Some.ensures c.units_at.result.now
    (name_there c.args.event_data.now (variable_of c.in-Some.variable) c.in-Some.ensures _ _ c.len.ensures
    c.units_at.ensures.bytes)
