use Rattle.std.proofs.Common.{◌≡◌, List, ℕ, ◌++◌, ap}
use Rattle.uefi_path_text.specs.parse.Arguments.{arguments_data, repeated_values}
use Rattle.uefi_path_text.specs.private.FormViews.{arguments_of}
use Rattle.uefi_path_text.specs.private.FromText.{rest_parts}
use Rattle.uefi_path_text.specs.private.Calls.{call_values}
use Rattle.uefi_path_text.proofs.reading.RepeatedValues.{all_bytes, repeated_data, prefix_length}
use Rattle.uefi_path_text.proofs.parse.call.Call.data_len.Goals as goal

pub returns-in-Repeated-clause-some : goal.returns-in-Repeated-clause-some
returns-in-Repeated-clause-some c =
    let values : List ℕ = all_bytes (repeated_values c.in-Repeated.kind (rest_parts 0x2c c.args.self.now.texts)) in
    let whole : arguments_data (arguments_of c.args.self.now.form.now.arguments) (call_values c.args.self.now)
    ≡ c.in-Repeated.prefix.now ++ values =
    repeated_data _ c.in-Repeated.prefix.now c.in-Repeated.kind (rest_parts 0x2c c.args.self.now.texts)
    (ap arguments_of c.in-Repeated.is) c.args.self.now.read in
    prefix_length c.in-Repeated.prefix.now values _ c.with_prefix.result c.repeated_len.result whole c.with_prefix.ensures.sum
    c.repeated_len.ensures.some
