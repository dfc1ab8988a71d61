-- What contracts see of a node's text with arguments.
use Rattle.std.specs.Prelude.{ℕ, ◌==◌, ◌&&◌, ◌||◌, Bool, List, [], Option}
use Rattle.std.specs.Option.{unwrap_or}
use Rattle.std.specs.Borrow.{Bor}
use Rattle.uefi_path.specs.Node.{Node}
use Rattle.uefi_path_text.specs.form.NodeForm.{Arguments}
use Rattle.uefi_path_text.specs.parse.Arguments.{values_in, form_node}
use Rattle.uefi_path_text.specs.private.FromText.{rest_parts}
use Rattle.uefi_path_text.specs.private.FormViews.{form_of, arguments_of}
use Rattle.uefi_path_text.specs.declared.parse.call.Call.{Call}

-- The values of the texts of arguments.
abbrev pub text_values : Arguments → Option (Bor (List ℕ)) → List (List ℕ)
text_values arguments texts = unwrap_or (values_in arguments (rest_parts 0x2c texts)) []

-- The values of the arguments, and the node.
abbrev pub call_values : Call → List (List ℕ)
call_values call = text_values (arguments_of call.form.now.arguments) call.texts

abbrev pub call_node : Call → Node
call_node call = form_node (form_of call.form.now) (call_values call)

-- The node has the type END and a known subtype.
abbrev pub is_known_end : Node → Bool
is_known_end node = node.device_type == 0x7f && (node.sub_type == 0x01 || node.sub_type == 0xff)
