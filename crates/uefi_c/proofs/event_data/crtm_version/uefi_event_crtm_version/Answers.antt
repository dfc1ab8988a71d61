use Rattle.std.proofs.Common.{ap, sym, ◌∙◌}
use Rattle.uefi_base.specs.Views.{slice_units}
use Rattle.tcg_event.specs.CrtmVersion.{other}
use Rattle.tcg_event.specs.Views.{text_of, version_of}
use Rattle.uefi_c.proofs.EventBytes.{guid_is, other_is, string_there, string_within}
use Rattle.uefi_c.proofs.event_data.crtm_version.uefi_event_crtm_version.Goals as goal

pub units_at-requires : goal.units_at-requires
units_at-requires c = string_within c.args.event_data.now (slice_units c.in-Ucs2.units) _
    (sym c.read.ensures ∙ ap version_of c.in-Ucs2.is) c.len.ensures

pub returns-in-Ucs2-clause-version : goal.returns-in-Ucs2-clause-version
returns-in-Ucs2-clause-version c = string_there c.args.event_data.now (slice_units c.in-Ucs2.units) _ _
    (sym c.read.ensures ∙ ap version_of c.in-Ucs2.is) c.len.ensures c.units_at.ensures.bytes

pub returns-in-Guid-clause-version : goal.returns-in-Guid-clause-version
returns-in-Guid-clause-version c = guid_is c.args.event_data.now c.in-Guid.field-0.0
    (sym c.read.ensures ∙ ap version_of c.in-Guid.is)

pub seen-requires : goal.seen-requires
seen-requires c = other_is c.args.event_data.now (text_of c.in-Other.text) (sym c.read.ensures ∙ ap version_of c.in-Other.is)

pub returns-in_default-clause-version : goal.returns-in_default-clause-version
returns-in_default-clause-version c =
    let is = sym c.read.ensures ∙ ap version_of c.in-Other.is in
    is ∙ ap (λ text. other text) (other_is c.args.event_data.now (text_of c.in-Other.text) is ∙ c.in_default.ensures.text)

pub returns-in-Some-clause-version : goal.returns-in-Some-clause-version
returns-in-Some-clause-version c =
    let is = sym c.read.ensures ∙ ap version_of c.in-Other.is in
    is ∙ ap (λ text. other text) (other_is c.args.event_data.now (text_of c.in-Other.text) is ∙ c.in-Some.ensures.text)
