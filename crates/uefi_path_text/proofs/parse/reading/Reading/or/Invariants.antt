use Rattle.std.proofs.Common.{List, ◌++◌, map, take}
use Rattle.uefi_path_text.specs.form.NodeForm.{NodeForm}
use Rattle.uefi_path_text.specs.private.FormViews.{form_of}
use Rattle.uefi_path_text.specs.private.Readings.{ReadsBy}
use Rattle.uefi_path_text.proofs.parse.reading.Reading.or.Given as goal

-- The reading by the forms so far.
abbrev pub invariant-loop-form : goal.invariant-loop-form
invariant-loop-form l = (before : List NodeForm) → ReadsBy before l.name l.arguments l.initial.reading
    → ReadsBy (before ++ map form_of (take l.form-index l.forms)) l.name l.arguments l.reading
