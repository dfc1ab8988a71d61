use Rattle.uefi_path_text.proofs.arguments.Sides.{more_put}
use Rattle.uefi_path_text.proofs.parse.ipv6.Side.with.Goals as goal

pub returns-clause-side : goal.returns-clause-side
returns-clause-side c =
    let is = c.requires.side in
    let more = more_put c.args.self.bytes c.args.more.now c.put.new.buffer c.args.self.len is.long is.zeros c.requires.room c.put.ensures in
    record { few = c.requires.room; long = more.long; zeros = more.zeros }

pub returns-clause-bytes : goal.returns-clause-bytes
returns-clause-bytes c =
    let is = c.requires.side in
    let more = more_put c.args.self.bytes c.args.more.now c.put.new.buffer c.args.self.len is.long is.zeros c.requires.room c.put.ensures in
    more.first
