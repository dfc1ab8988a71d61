use Rattle.uefi_path_text.specs.private.FormViews.{part_of}
use Rattle.uefi_path_text.specs.private.Lists.{listed_of}
use Rattle.uefi_path_text.proofs.reading.ArgumentLists.{part_then}
use Rattle.uefi_path_text.proofs.parse.data.Listed.+put.Goals as goal

pub returns-in-Some : goal.returns-in-Some
returns-in-Some t c =
    part_then part_of (listed_of c.args.self.now) c.in-Some.part.now c.in-Some.others.now c.args.parts.now c.args.offset
    c.part_len.result c.args.buffer.now c.put_part.new.buffer c.put.new.buffer c.in-Some.ensures.cases.0 c.requires.room
    c.put_part.ensures c.part_len.ensures c.put.ensures
