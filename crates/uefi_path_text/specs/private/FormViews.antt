-- What contracts see of the forms of nodes.
use Rattle.std.specs.Prelude.{map}
use Rattle.uefi_path_text.specs.form.NodeForm as spec
use Rattle.uefi_path_text.specs.declared.form.Parameter.{Parameter}
use Rattle.uefi_path_text.specs.declared.form.Arguments.{Arguments}
use Rattle.uefi_path_text.specs.declared.form.Arguments.TheVariants.{Listed, Repeated}
use Rattle.uefi_path_text.specs.declared.form.Source.{Source}
use Rattle.uefi_path_text.specs.declared.form.Source.TheVariants.{Known, Stated}
use Rattle.uefi_path_text.specs.declared.form.Part.{Part}
use Rattle.uefi_path_text.specs.declared.form.Part.TheVariants.{Bytes, Value, Padded, Sum}
use Rattle.uefi_path_text.specs.declared.form.NodeForm.{NodeForm}

abbrev pub parameter_of : Parameter → spec.Parameter
parameter_of parameter = record { argument = parameter.argument; default = parameter.default.now }

abbrev pub source_of : Source → spec.Source
source_of (Known number) = spec.known number
source_of (Stated index) = spec.stated index

abbrev pub part_of : Part → spec.Part
part_of (Bytes b) = spec.bytes b.now
part_of (Value index) = spec.argument index
part_of (Padded index) = spec.padded index
part_of (Sum index count) = spec.sum index count

abbrev pub arguments_of : Arguments → spec.Arguments
arguments_of (Listed parameters parts) = spec.listed (map parameter_of parameters.now) (map part_of parts.now)
arguments_of (Repeated prefix kind) = spec.repeated prefix.now kind

abbrev pub form_of : NodeForm → spec.NodeForm
form_of form = record {
  name = form.name.now;
  device_type = source_of form.device_type;
  sub_type = source_of form.sub_type;
  arguments = arguments_of form.arguments;
  is_shortcut = form.is_shortcut;
  first_displayed = form.first_displayed;
  displayed = form.displayed;
  reserved = form.reserved;
}
