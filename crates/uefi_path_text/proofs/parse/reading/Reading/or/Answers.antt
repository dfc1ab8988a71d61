use Rattle.uefi_path_text.specs.private.FormViews.{form_of}
use Rattle.uefi_path_text.proofs.reading.ReadForms.{step_reads, all_read}
use Rattle.uefi_path_text.proofs.parse.reading.Reading.or.Goals as goal

pub loop-form-preserved : goal.loop-form-preserved
loop-form-preserved c =
    step_reads form_of c.args.forms.now c.loop-form.form-index _ c.args.name.now c.args.arguments.now c.args.self
    c.loop-form.reading c.or_form-reading.result c.loop-form-test.true c.loop-form.invariant c.or_form-reading.ensures

pub returns : goal.returns
returns c =
    all_read form_of c.args.forms.now c.loop-form.form-index c.args.name.now c.args.arguments.now c.args.self
    c.loop-form.reading c.loop-form-test.false c.loop-form.invariant
