use Rattle.uefi_path_text.proofs.arguments.Groups.{next_groups, nothing_read}
use Rattle.uefi_path_text.proofs.parse.ipv6.read_groups.Goals as goal

pub loop-rest-init : goal.loop-rest-init
loop-rest-init c =
    nothing_read c.args.text.now c.new-side.result c.some_text-rest.result c.args.room c.some_text-rest.ensures.parts
    c.some_text-rest.ensures.length c.new-side.ensures.side c.new-side.ensures.empty

pub loop-rest-preserved : goal.loop-rest-preserved
loop-rest-preserved c =
    next_groups c.args.text.now c.loop-rest.side c.with-side.result c.cut.result.0.now c.in-Some-group_of.group c.in-Some.parts
    c.cut.result.1 c.args.room (rw c.in-Some.is at c.loop-rest.invariant) c.cut.ensures c.in-Some-group_of.ensures.group
    c.in-Some-group_of.ensures.some c.with-side.ensures.side c.with-side.ensures.bytes c.with-side.ensures.len
    c.if-side-room.false
