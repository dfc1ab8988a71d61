use Rattle.std.proofs.Common.{ap, sym, ◌∙◌}
use Rattle.uefi_base.specs.Views.{slice_units}
use Rattle.tcg_event.specs.Text.{text_given}
use Rattle.tcg_event.specs.Views.{text_of}
use Rattle.uefi_c.proofs.EventBytes.{other_text_is, text_there, text_within}
use Rattle.uefi_c.proofs.event_data.text.seen.Goals as goal

pub units_at-requires : goal.units_at-requires
units_at-requires c =
    text_within c.args.bytes.now (text_of c.args.text.now) (text_given (slice_units c.in-Utf16.units) c.in-Utf16.has_nul) _
    (ap text_of c.in-Utf16.is) c.requires c.len.ensures

pub returns-in-Utf16-clause-text : goal.returns-in-Utf16-clause-text
returns-in-Utf16-clause-text c =
    text_there c.args.bytes.now (text_of c.args.text.now) (text_given (slice_units c.in-Utf16.units) c.in-Utf16.has_nul) _ _
    (ap text_of c.in-Utf16.is) c.requires c.len.ensures c.units_at.ensures.bytes

pub returns-in-Other-clause-text : goal.returns-in-Other-clause-text
returns-in-Other-clause-text c =
    other_text_is c.args.bytes.now c.in-Other.field-0.now (sym c.requires ∙ ap text_of c.in-Other.is)
