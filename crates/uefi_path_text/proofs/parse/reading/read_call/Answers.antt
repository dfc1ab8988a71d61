use Rattle.std.proofs.Common.{refl}
use Rattle.uefi_path_text.proofs.reading.ReadForms.{next_section, all_sections}
use Rattle.uefi_path_text.proofs.parse.reading.read_call.Goals as goal

pub loop-section-init : goal.loop-section-init
loop-section-init c = refl

pub loop-section-preserved : goal.loop-section-preserved
loop-section-preserved c =
    next_section c.sections-section-items.result.now c.loop-section.section-index _ c.args.name.now c.args.arguments.now
    c.loop-section.reading c.or-reading.result _ c.loop-section-test.true c.forms.ensures c.loop-section.invariant
    c.or-reading.ensures

pub returns : goal.returns
returns c =
    all_sections c.sections-section-items.result.now c.loop-section.section-index c.args.name.now c.args.arguments.now
    c.loop-section.reading c.sections-section-items.ensures c.loop-section-test.false c.loop-section.invariant
