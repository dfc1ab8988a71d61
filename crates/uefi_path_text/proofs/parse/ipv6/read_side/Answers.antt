use Rattle.std.proofs.Common.{◌≡◌, arith, length, take}
use Rattle.std.proofs.lemmas.List.{length-take-le}
use Rattle.uefi_path_text.specs.declared.parse.ipv6.Side.{Side}
use Rattle.uefi_path_text.specs.private.Ipv6.{IsSide}
use Rattle.uefi_path_text.proofs.arguments.Groups.{too_long, no_more}
use Rattle.uefi_path_text.proofs.parse.ipv6.read_side.Goals as goal

length_side : (side : Side) → IsSide side → length (take side.len side.bytes) ≡ side.len
length_side side is = length-take-le side.len side.bytes (omega (arith, is.few, is.long))

pub returns-then-side-room-clause-err : goal.returns-then-side-room-clause-err
returns-then-side-room-clause-err c =
    let side = c.read_groups.result.0 in
    too_long c.args.text.now (take side.len side.bytes) c.in-Some.parts c.args.least c.args.room
    (rw c.in-Some.is at c.read_groups.ensures.groups)
    (omega (arith, c.if-side-room.true, length_side side c.read_groups.ensures.side))

pub returns-in-Err-clause-err : goal.returns-in-Err-clause-err
returns-in-Err-clause-err c =
    let side = c.read_groups.result.0 in
    let long : length (take side.len side.bytes) ≡ side.len = length_side side c.read_groups.ensures.side in
    let stops = rw c.in-Some.is at c.read_groups.ensures.stops in
    no_more c.args.text.now (take side.len side.bytes) c.in-Some.parts c.args.least c.args.room
    (rw c.in-Some.is at c.read_groups.ensures.groups) (stops c.if-side-room.false)
    (λ low high. c.in-Err.ensures.err (c.is_within.ensures.1 (omega (arith, low, long), omega (arith, high, long))))
