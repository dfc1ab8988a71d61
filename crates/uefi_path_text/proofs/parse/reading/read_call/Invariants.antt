-- The reading by the forms of the sections so far.
use Rattle.std.proofs.Common.{take}
use Rattle.uefi_path_text.specs.AllForms.{forms_of}
use Rattle.uefi_path_text.specs.private.Readings.{ReadsBy}
use Rattle.uefi_path_text.proofs.parse.reading.read_call.Given as goal

abbrev pub invariant-loop-section : goal.invariant-loop-section
invariant-loop-section l = ReadsBy (forms_of (take l.section-index l.section-items)) l.name l.arguments l.reading
