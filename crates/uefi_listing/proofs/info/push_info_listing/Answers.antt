use Rattle.std.proofs.Common.{take, length, refl}
use Rattle.uefi_base.specs.Views.{error_data}
use Rattle.uefi_records.specs.file.FileInfo.{file_fields, file_info_verdict, size_in}
use Rattle.uefi_records.specs.file.Views.{file_name_of}
use Rattle.uefi_listing.specs.Info.{info_lines}
use Rattle.uefi_listing.specs.Info.{refused_info_line}
use Rattle.uefi_listing.proofs.Refusals.{refuses_info}
use Rattle.uefi_listing.proofs.info.push_info_listing.Goals as goal

pub returns-in_ok-push_info-in-Ok : goal.returns-in_ok-push_info-in-Ok
returns-in_ok-push_info-in-Ok g c =
    let found = c.in-Ok.ensures in
    let name = file_name_of c.in-Ok.info in
    let grown = rw (found.size, found.fields) at c.in_ok-push_info-in-Ok.ensures in (
      info_lines (size_in c.args.bytes.now) (file_fields c.args.bytes.now) name,
      (name, found.verdict, refl),
      grown,
    )

pub returns-in_ok-push_refusal-in-Err : goal.returns-in_ok-push_refusal-in-Err
returns-in_ok-push_refusal-in-Err g c =
    let verdict = file_info_verdict (take c.args.written c.args.bytes.now) (length c.args.bytes.now) in
    let line = refused_info_line (error_data c.in-Err.error) in
    (line, refuses_info verdict c.in-Err.error line c.in-Err.ensures.verdict refl, c.in_ok-push_refusal-in-Err.ensures)
