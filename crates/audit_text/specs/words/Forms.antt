-- The names of the forms of what an event measures.
use Rattle.std.specs.Prelude.{ℕ, List, codes}
use Rattle.uefi_audits.specs.declared.check.form.Form.{Form}
use Rattle.uefi_audits.specs.declared.check.form.Form.TheVariants.{Data, VariableValue, WithoutNul, WithNul, Command, Narrowed}

abbrev pub form_name : Form → List ℕ
form_name Data = codes "data"
form_name VariableValue = codes "variable value"
form_name WithoutNul = codes "without NUL"
form_name WithNul = codes "with NUL"
form_name Command = codes "command"
form_name Narrowed = codes "narrowed"
