use Rattle.std.proofs.Common.{◌≡◌, List, ℕ, ◌++◌, ap}
use Rattle.uefi_path_text.specs.parse.Arguments.{arguments_data, repeated_values}
use Rattle.uefi_path_text.specs.private.FormViews.{arguments_of}
use Rattle.uefi_path_text.specs.private.FromText.{rest_parts}
use Rattle.uefi_path_text.specs.private.Calls.{call_values}
use Rattle.uefi_path_text.proofs.reading.RepeatedValues.{all_bytes, repeated_data, prefix_put}
use Rattle.uefi_path_text.proofs.parse.call.Call.put_data.Goals as goal

pub returns-in-Repeated : goal.returns-in-Repeated
returns-in-Repeated c =
    let values : List ℕ = all_bytes (repeated_values c.in-Repeated.kind (rest_parts 0x2c c.args.self.now.texts)) in
    let whole : arguments_data (arguments_of c.args.self.now.form.now.arguments) (call_values c.args.self.now)
    ≡ c.in-Repeated.prefix.now ++ values =
    repeated_data _ c.in-Repeated.prefix.now c.in-Repeated.kind (rest_parts 0x2c c.args.self.now.texts)
    (ap arguments_of c.in-Repeated.is) c.args.self.now.read in
    prefix_put c.in-Repeated.prefix.now values _ c.args.buffer.now c.put-in-Repeated.new.buffer c.put_repeated.new.buffer
    c.args.offset whole c.requires c.put-in-Repeated.ensures c.put_repeated.ensures
