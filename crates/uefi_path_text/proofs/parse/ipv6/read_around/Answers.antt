use Rattle.std.proofs.Common.{◌≡◌, arith, length, take}
use Rattle.std.proofs.lemmas.List.{length-take-le}
use Rattle.uefi_path_text.proofs.arguments.Groups.{long_front}
use Rattle.uefi_path_text.proofs.parse.ipv6.read_around.Goals as goal

pub returns-in-Ok-2-clause-err : goal.returns-in-Ok-2-clause-err
returns-in-Ok-2-clause-err c =
    let side = c.in-Ok.side in
    let is = c.in-Ok.ensures.side in
    let long : length (take side.len side.bytes) ≡ side.len = length-take-le side.len side.bytes (omega (arith, is.few, is.long)) in
    long_front c.args.front.now c.args.back.now (take side.len side.bytes) c.in-Ok.ensures.ok (omega (arith, long))
