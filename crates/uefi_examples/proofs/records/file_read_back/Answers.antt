use Rattle.std.proofs.Common.{arith, refl, sym, ap, subst, ◌≡◌, ◌<◌, ◌≤◌, ◌^◌, ℕ, List, length, take, drop}
use Rattle.uefi_base.specs.Buffer.{put_prefix}
use Rattle.uefi_base.specs.Views.{text_units}
use Rattle.uefi_records.specs.Laws.{FileInfoReadsBack}
use Rattle.uefi_records.specs.file.Name.{FitName, record_end}
use Rattle.uefi_records.specs.file.FileInfo.{FileFields, FitFile, file_fields, file_info_bytes, file_info_size}
use Rattle.uefi_records.specs.file.FileInfo.{file_info_verdict, file_name_offset, size_in}
use Rattle.uefi_records.specs.file.Verdict.{accepted}
use Rattle.uefi_records.specs.file.Views.{file_fields_given}
use Rattle.uefi_examples.proofs.NamedRecords.{IfSome_of_ok, IfSome_is, is_named}
use Rattle.uefi_examples.proofs.Results.{ok_is}
use Rattle.uefi_examples.proofs.records.file_read_back.Goals as goal

-- A buffer is read back as the record with these fields and this name.
record ReadsAs (fields : FileFields) (name : List ℕ) (written : ℕ) (buffer : List ℕ) : Type 0 where
  verdict : file_info_verdict (take written buffer) (length buffer) ≡ accepted name
  size : size_in buffer ≡ file_info_size (length name)
  same_fields : file_fields buffer ≡ fields

-- So is one that the record was written to.
written_reads : FileInfoReadsBack → (fields : FileFields) (name old new : List ℕ) (end : ℕ) → FitFile fields
    → FitName name → length old < 2 ^ 64
    → end ≡ record_end file_name_offset (length name) → file_info_size (length name) ≤ length old
    → length new ≡ length old → new ≡ put_prefix (file_info_bytes fields name) old
    → ReadsAs fields name end new
written_reads law fields name old new end fit fit_name short covers room same written =
    let rest : List ℕ = drop (length (file_info_bytes fields name)) old in
    let seen = law fields name rest end fit fit_name (omega (arith, short, room)) (omega (arith, covers))
    (omega (arith, room, same, ap length written)) in
    subst (ReadsAs fields name end) (sym written) (record { verdict = seen.0; size = seen.1; same_fields = seen.2 })

-- The buffer that was written to reads as what was passed.
back : (c : goal.After-ok-2)
    → ReadsAs (file_fields_given c.args.sizes.0 c.args.sizes.1 c.args.times.0 c.args.times.1 c.args.times.2
    c.args.attribute)
    (text_units c.args.file_name.now) c.in_ok-end.end c.write_file_info-written.new.buffer
back c =
    let wrote = c.write_file_info-written.ensures in
    let is = ok_is c.write_file_info-written.result c.in_ok-end.end c.in_ok-end.ensures.value in
    let fields_fit = rw is at wrote.fields_fit in
    let name_fits = rw is at wrote.name_fits in
    let end = rw is at wrote.end in
    let fits = rw is at wrote.fits in
    let written = rw is at wrote.written in
    written_reads c.reads_back.ensures.file_info _ _ _ _ _ fields_fit name_fits (omega arith) end (fits.0 refl)
    c.write_file_info-written.auto.buffer written

pub returns-clause-fields : goal.returns-clause-fields
returns-clause-fields c =
    IfSome_is _ _ _ c.from_uefi.result c.ok-2.result c.ok-2.ensures.value (back c).same_fields c.from_uefi.ensures.fields

pub returns-clause-name : goal.returns-clause-name
returns-clause-name c = IfSome_of_ok _ c.from_uefi.result c.ok-2.result c.ok-2.ensures.value
    (is_named _ _ _ c.from_uefi.result c.from_uefi.ensures.verdict (back c).verdict)

pub returns-clause-size : goal.returns-clause-size
returns-clause-size c =
    IfSome_is _ _ _ c.from_uefi.result c.ok-2.result c.ok-2.ensures.value (back c).size c.from_uefi.ensures.size
