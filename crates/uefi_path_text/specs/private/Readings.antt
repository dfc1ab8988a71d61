-- What contracts see of reading a call by forms.
use Rattle.std.specs.Prelude.{ℕ, ◌≡◌, ◌≤◌, List, [], length, filter, Some, None}
use Rattle.std.specs.Str.{bytes_eq}
use Rattle.uefi_path_text.specs.form.NodeForm.{NodeForm}
use Rattle.uefi_path_text.specs.parse.Arguments.{texts_of}
use Rattle.uefi_path_text.specs.parse.Nodes.{first_node}
use Rattle.uefi_path_text.specs.private.Calls.{call_node}
use Rattle.uefi_path_text.specs.declared.parse.reading.Reading.{Reading}
use Rattle.uefi_path_text.specs.declared.parse.reading.Reading.TheVariants.{Unknown, Wrong, Node}

-- The forms of a name.
abbrev pub named : List ℕ → List NodeForm → List NodeForm
named name forms = filter (λ form. bytes_eq form.name name) forms

-- No form has the name; the arguments are those of none of its forms; or the node by the first form that they fit.
abbrev pub ReadsBy : List NodeForm → List ℕ → List ℕ → Reading → Type 0
ReadsBy forms name arguments Unknown = named name forms ≡ []
ReadsBy forms name arguments (Wrong fault) =
    (first_node (named name forms) (texts_of arguments) ≡ None) × (fault.offset ≤ length arguments)
ReadsBy forms name arguments (Node call) = first_node (named name forms) (texts_of arguments) ≡ Some (call_node call)

-- A fault is within so many bytes.
abbrev pub IsWithin : Reading → ℕ → Type 0
IsWithin (Wrong fault) n = fault.offset ≤ n
IsWithin Unknown n = Unit
IsWithin (Node call) n = Unit
