use Rattle.std.proofs.Common.{◌∙◌, ap}
use Rattle.uefi_path_text.specs.private.FromText.{rest_parts, value_bytes}
use Rattle.uefi_path_text.proofs.reading.RepeatedValues.{next_put}
use Rattle.uefi_path_text.proofs.parse.repeated.put_repeated.Goals as goal

pub loop-rest-preserved : goal.loop-rest-preserved
loop-rest-preserved c =
    next_put c.args.kind (rest_parts 0x2c c.loop-rest.rest) (rest_parts 0x2c c.cut.result.1) c.cut.result.0.now
    (value_bytes c.value_of-value.result) c.loop-rest.end c.len-end.result _ c.loop-rest.buffer c.put_value.new.buffer
    (ap (rest_parts 0x2c) c.in-Some.is ∙ c.cut.ensures.parts) c.value_of-value.ensures.bytes c.len-end.ensures
    c.loop-rest.invariant.0 c.loop-rest.invariant.1 c.loop-rest.invariant.2 c.put_value.ensures
