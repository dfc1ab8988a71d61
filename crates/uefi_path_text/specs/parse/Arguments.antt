-- What the arguments of a form stand for, and the node that they make (UEFI 2.10, 10.6.1.6).
use Rattle.std.specs.Prelude.{ℕ, zero, suc, ◌+◌, ◌-◌, ◌==◌, List, [], ◌∷◌, ◌++◌, length, take, drop, replicate, slice_index}
use Rattle.std.specs.Prelude.{Option, Some, None, if◌then◌else◌}
use Rattle.std.specs.Int.{w16, from_le_bytes}
use Rattle.uefi_path.specs.Node.{Node}
use Rattle.uefi_path_text.specs.form.NodeForm.{Parameter, Source, known, stated, Part, bytes, argument, padded, sum, Arguments, listed, repeated, NodeForm}
use Rattle.uefi_path_text.specs.parse.Parts.{cut_at}
use Rattle.uefi_path_text.specs.parse.Values.{bytes_in, low_first}
use Rattle.uefi_path_text.specs.declared.form.argument.Argument.{Argument}

-- The list of values, if there are all of them.
abbrev pub onto : {A : Type 0} → Option A → Option (List A) → Option (List A)
onto None values = None
onto (Some value) None = None
onto (Some value) (Some values) = Some (value ∷ values)

-- What a parameter's text stands for.
abbrev pub text_or : List ℕ → List ℕ → List ℕ
text_or default text = if length text == 0 then default else text

abbrev pub value_in : Parameter → List ℕ → Option (List ℕ)
value_in parameter text = bytes_in parameter.argument (text_or parameter.default text)

-- What the texts of all arguments stand for; those that are left out are empty.
abbrev pub listed_values : List Parameter → List (List ℕ) → Option (List (List ℕ))
listed_values [] [] = Some []
listed_values [] (text ∷ texts) = None
listed_values (parameter ∷ parameters) [] = onto (value_in parameter []) (listed_values parameters [])
listed_values (parameter ∷ parameters) (text ∷ texts) = onto (value_in parameter text) (listed_values parameters texts)

abbrev pub repeated_values : Argument → List (List ℕ) → Option (List (List ℕ))
repeated_values kind [] = Some []
repeated_values kind (text ∷ texts) = onto (bytes_in kind text) (repeated_values kind texts)

abbrev pub values_in : Arguments → List (List ℕ) → Option (List (List ℕ))
values_in (listed parameters parts) texts = listed_values parameters texts
values_in (repeated prefix kind) texts = if length texts == 0 then None else repeated_values kind texts

-- The texts of arguments, which commas separate.
abbrev pub texts_of : List ℕ → List (List ℕ)
texts_of arguments = if length arguments == 0 then [] else cut_at 0x2c arguments

-- The value at an index; nothing, if there is none.
abbrev pub value_at : ℕ → List (List ℕ) → List ℕ
value_at index [] = []
value_at zero (value ∷ values) = value
value_at (suc index) (value ∷ values) = value_at index values

abbrev pub joined_values : List (List ℕ) → List ℕ
joined_values [] = []
joined_values (value ∷ values) = value ++ joined_values values

-- The number of two bytes that an argument is, or 0; and the sum of these.
abbrev pub number_of : List ℕ → ℕ
number_of value = if length value == 2 then from_le_bytes w16 value else 0

abbrev pub number_sum : List (List ℕ) → ℕ
number_sum [] = 0
number_sum (value ∷ values) = number_of value + number_sum values

-- The bytes of a part, by the values of the arguments.
abbrev pub with_zeros : List ℕ → List ℕ
with_zeros value = value ++ replicate (32 - length value) 0

abbrev pub part_bytes : List (List ℕ) → Part → List ℕ
part_bytes values (bytes b) = b
part_bytes values (argument index) = value_at index values
part_bytes values (padded index) = with_zeros (value_at index values)
part_bytes values (sum index count) = low_first 2 (number_sum (take count (drop index values)))

abbrev pub parts_data : List (List ℕ) → List Part → List ℕ
parts_data values [] = []
parts_data values (part ∷ parts) = part_bytes values part ++ parts_data values parts

abbrev pub arguments_data : Arguments → List (List ℕ) → List ℕ
arguments_data (listed parameters parts) values = parts_data values parts
arguments_data (repeated prefix kind) values = prefix ++ joined_values values

-- The byte that an argument is, or 0.
abbrev pub byte_of : List ℕ → ℕ
byte_of value = if length value == 1 then slice_index value 0 else 0

-- The node of a form, by the values of the arguments.
abbrev pub number_from : Arguments → List (List ℕ) → Source → ℕ
number_from arguments values (known number) = number
number_from (listed parameters parts) values (stated index) = byte_of (value_at index values)
number_from (repeated prefix kind) values (stated index) = 0

abbrev pub form_node : NodeForm → List (List ℕ) → Node
form_node form values = record {
  device_type = number_from form.arguments values form.device_type;
  sub_type = number_from form.arguments values form.sub_type;
  payload = arguments_data form.arguments values;
}
