use Rattle.std.proofs.Common.{arith, refl, sym, ap, subst, ◌≡◌, ◌<◌, ◌≤◌, ◌^◌, ℕ, List, length, take, drop}
use Rattle.std.proofs.lemmas.Grind.{common_steps}
use Rattle.uefi_base.specs.Buffer.{put_prefix}
use Rattle.uefi_base.specs.Views.{text_units}
use Rattle.uefi_records.specs.Laws.{FileSystemInfoReadsBack}
use Rattle.uefi_records.specs.file.Name.{FitName, record_end}
use Rattle.uefi_records.specs.file.FileInfo.{size_in}
use Rattle.uefi_records.specs.file.FileSystemInfo.{FileSystemFields, FitFileSystem, file_system_fields}
use Rattle.uefi_records.specs.file.FileSystemInfo.{file_system_info_bytes, file_system_info_size}
use Rattle.uefi_records.specs.file.FileSystemInfo.{file_system_info_verdict, label_offset, unused_bytes}
use Rattle.uefi_records.specs.file.Verdict.{accepted}
use Rattle.uefi_records.specs.file.Views.{file_system_fields_given}
use Rattle.uefi_examples.proofs.NamedRecords.{IfSome_of_ok, IfSome_is, is_named, is_read}
use Rattle.uefi_examples.proofs.Results.{ok_is}
use Rattle.uefi_examples.proofs.volumes.file_system_read_back.Goals as goal

-- A buffer is read back as the record with these fields and this label.
record ReadsAs (fields : FileSystemFields) (label : List ℕ) (written : ℕ) (buffer : List ℕ) : Type 0 where
  verdict : file_system_info_verdict (take written buffer) (length buffer) ≡ accepted label
  size : size_in buffer ≡ file_system_info_size (length label)
  same_fields : file_system_fields buffer ≡ fields

-- A buffer with room for a record has all the bytes without meaning.
length-unused : (bytes : List ℕ) → 16 ≤ length bytes → length (unused_bytes bytes) ≡ 7
length-unused bytes room = grind (arith, common_steps)

-- A buffer that the record was written to is read back as that record.
written_reads : FileSystemInfoReadsBack → (fields : FileSystemFields) (label old new : List ℕ) (end : ℕ)
    → FitFileSystem fields → FitName label
    → length old < 2 ^ 64 → end ≡ record_end label_offset (length label)
    → file_system_info_size (length label) ≤ length old → length new ≡ length old
    → new ≡ put_prefix (file_system_info_bytes fields (unused_bytes old) label) old → ReadsAs fields label end new
written_reads law fields label old new end fit fit_label short covers room same written =
    let rest : List ℕ = drop (length (file_system_info_bytes fields (unused_bytes old) label)) old in
    let unused = length-unused old (omega (arith, room)) in
    let seen = law fields (unused_bytes old) label rest end unused fit fit_label (omega (arith, short, room))
    (omega (arith, covers))
    (omega (arith, room, same, ap length written)) in
    subst (ReadsAs fields label end) (sym written) (record { verdict = seen.0; size = seen.1; same_fields = seen.2 })

-- The buffer that was written to is read as what was passed.
back : (c : goal.After-ok-2)
    → ReadsAs (file_system_fields_given c.args.read_only c.args.volume_size c.args.free_space c.args.block_size)
    (text_units c.args.volume_label.now)
    c.in_ok-end.end c.write_file_system_info-written.new.buffer
back c =
    let wrote = c.write_file_system_info-written.ensures in
    let is = ok_is c.write_file_system_info-written.result c.in_ok-end.end c.in_ok-end.ensures.value in
    let fields_fit = rw is at wrote.fields_fit in
    let label_fits = rw is at wrote.label_fits in
    let end = rw is at wrote.end in
    let fits = rw is at wrote.fits in
    let written = rw is at wrote.written in
    written_reads c.reads_back.ensures.file_system_info _ _ _ _ _ fields_fit label_fits (omega arith) end (fits.0 refl)
    c.write_file_system_info-written.auto.buffer written

pub returns-clause-fields : goal.returns-clause-fields
returns-clause-fields c =
    IfSome_is _ _ _ c.from_uefi.result c.ok-2.result c.ok-2.ensures.value (back c).same_fields c.from_uefi.ensures.fields

pub returns-clause-label : goal.returns-clause-label
returns-clause-label c =
    IfSome_of_ok _ c.from_uefi.result c.ok-2.result c.ok-2.ensures.value
    (is_named _ _ _ c.from_uefi.result c.from_uefi.ensures.verdict (back c).verdict)

pub returns-clause-size : goal.returns-clause-size
returns-clause-size c =
    IfSome_is _ _ _ c.from_uefi.result c.ok-2.result c.ok-2.ensures.value (back c).size c.from_uefi.ensures.size

pub returns-clause-fits : goal.returns-clause-fits
returns-clause-fits c = (
  λ _. let fits = rw (ok_is c.write_file_system_info-written.result c.in_ok-end.end c.in_ok-end.ensures.value)
      at c.write_file_system_info-written.ensures.fits in fits.0 refl,
  λ _. is_read _ _ _ c.from_uefi.result c.ok-2.result c.ok-2.ensures.value
      c.from_uefi.ensures.verdict (back c).verdict,
)
