use Rattle.uefi_path_text.specs.private.FormViews.{form_of}
use Rattle.uefi_path_text.proofs.reading.ReadForms.{is_named, form_kept, form_fits, form_fails}
use Rattle.uefi_path_text.proofs.parse.reading.Reading.or_form.Goals as goal

pub returns-in-Node : goal.returns-in-Node
returns-in-Node c =
    form_kept c.args.self (form_of c.args.form.now) c.args.name.now c.args.arguments.now c.in-Node.field-0
    (is_named c.as_bytes.result.now c.args.form.now.name.now c.args.name.now c.ne.result c.as_bytes.ensures.value c.ne.ensures c.if-ne.false)
    c.in-Node.is

pub returns-in-Ok : goal.returns-in-Ok
returns-in-Ok c =
    form_fits c.args.self (form_of c.args.form.now) c.args.name.now c.args.arguments.now c.in-Ok.call
    (is_named c.as_bytes.result.now c.args.form.now.name.now c.args.name.now c.ne.result c.as_bytes.ensures.value c.ne.ensures c.if-ne.false)
    c.in_default.not-Node c.in-Ok.ensures.ok

pub returns-in-Err : goal.returns-in-Err
returns-in-Err c =
    form_fails c.args.self (form_of c.args.form.now) c.args.name.now c.args.arguments.now c.in-Err.fault c.farther.result
    (is_named c.as_bytes.result.now c.args.form.now.name.now c.args.name.now c.ne.result c.as_bytes.ensures.value c.ne.ensures c.if-ne.false)
    c.in_default.not-Node c.in-Err.ensures.err c.in-Err.ensures.offset c.farther.ensures
