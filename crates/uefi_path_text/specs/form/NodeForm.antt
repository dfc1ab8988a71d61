-- The forms of nodes as text: a name, what its arguments are, and which node they make (UEFI 2.10, 10.6.1.6).
use Rattle.std.specs.Prelude.{ℕ, Bool, true, false, List, Option, None, Some}
use Rattle.uefi_path_text.specs.declared.form.argument.Argument.{Argument}

-- An argument, and the text that stands for it if it is left out or empty; the empty text, if it can't be left out.
pub record Parameter : Type 0 where
  pub argument : Argument
  pub default : List ℕ

-- A number of a node: this one, or the first byte of the argument at an index.
pub data Source : Type 0 where
  known : ℕ → Source
  stated : ℕ → Source

-- A part of a node's data: these bytes; the argument at an index; the same with zeros after it, in 32 bytes; or the sum
-- of the numbers, of two bytes each, of the arguments from an index on, of which there are this many.
pub data Part : Type 0 where
  bytes : List ℕ → Part
  argument : ℕ → Part
  padded : ℕ → Part
  sum : ℕ → ℕ → Part

-- What is in the parentheses: these arguments, whose values are in the parts of the data; or one or more arguments of a
-- kind, whose values follow these bytes.
pub data Arguments : Type 0 where
  listed : List Parameter → List Part → Arguments
  repeated : List ℕ → Argument → Arguments

-- A form. A shortcut is written only where they are allowed. For display so many arguments are written, from the first
-- of these on, and the part at an index, of reserved bytes, may be any.
pub record NodeForm : Type 0 where
  pub name : List ℕ
  pub device_type : Source
  pub sub_type : Source
  pub arguments : Arguments
  pub is_shortcut : Bool
  pub first_displayed : ℕ
  pub displayed : ℕ
  pub reserved : Option ℕ

-- A form that is no shortcut, and for display is the same.
abbrev pub form : List ℕ → Source → Source → Arguments → NodeForm
form name device_type sub_type arguments = record {
  name = name;
  device_type = device_type;
  sub_type = sub_type;
  arguments = arguments;
  is_shortcut = false;
  first_displayed = 0;
  displayed = 255;
  reserved = None;
}

abbrev pub shortcut : NodeForm → NodeForm
shortcut form = record form { is_shortcut = true }

-- For display so many arguments, from the first on.
abbrev pub displaying : ℕ → ℕ → NodeForm → NodeForm
displaying first count form = record form { first_displayed = first; displayed = count }

-- The part at an index is of reserved bytes.
abbrev pub reserving : ℕ → NodeForm → NodeForm
reserving index form = record form { reserved = Some index }
