use Rattle.std.proofs.Common.{IsTrue}
use Rattle.uefi_path_text.specs.private.FormViews.{part_of}
use Rattle.uefi_path_text.specs.private.Found.{values_of}
use Rattle.uefi_path_text.proofs.Found.{part_and_more}
use Rattle.uefi_path_text.proofs.write.fields.Fields.+are_parts.Goals as goal

pub returns-in-Some-after_part : goal.returns-in-Some-after_part
returns-in-Some-after_part t c =
    part_and_more part_of (values_of c.args.self.now) c.in-Some.part.now c.in-Some.others.now c.args.parts.now c.args.rest.now
    c.in-Some-after_part.more.now (IsTrue c.are_parts.result) c.in-Some.ensures.cases.0 c.in-Some-after_part.ensures c.are_parts.ensures
