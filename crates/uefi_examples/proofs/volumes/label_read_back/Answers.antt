use Rattle.std.proofs.Common.{arith, refl, sym, ap, subst, ◌≡◌, ◌≤◌, ℕ, List, length, take, drop}
use Rattle.uefi_base.specs.Buffer.{put_prefix}
use Rattle.uefi_records.specs.Laws.{VolumeLabelReadsBack}
use Rattle.uefi_records.specs.file.Name.{FitName, record_end}
use Rattle.uefi_records.specs.file.FileSystemInfo.{lone_label_offset, volume_label_bytes, volume_label_size}
use Rattle.uefi_records.specs.file.FileSystemInfo.{volume_label_verdict}
use Rattle.uefi_records.specs.file.Verdict.{accepted}
use Rattle.uefi_examples.proofs.NamedRecords.{IfSome_of_ok, is_named}
use Rattle.uefi_examples.proofs.Results.{ok_is}
use Rattle.uefi_examples.proofs.volumes.label_read_back.Goals as goal

-- A buffer that the label was written to is read back as that label.
written_reads : VolumeLabelReadsBack → (label old new : List ℕ) (end : ℕ) → FitName label
    → end ≡ record_end lone_label_offset (length label)
    → volume_label_size (length label) ≤ length old → length new ≡ length old
    → new ≡ put_prefix (volume_label_bytes label) old
    → volume_label_verdict (take end new) (length new) ≡ accepted label
written_reads law label old new end fit covers room same written =
    let rest : List ℕ = drop (length (volume_label_bytes label)) old in
    let seen = law label rest end fit (omega (arith, covers)) (omega (arith, room, same, ap length written)) in
    subst (λ buffer. volume_label_verdict (take end buffer) (length buffer) ≡ accepted label) (sym written) seen

pub returns-clause-label : goal.returns-clause-label
returns-clause-label c =
    let wrote = c.write_file_system_volume_label.ensures in
    let is = ok_is c.write_file_system_volume_label.result c.in_ok-end.end c.in_ok-end.ensures.value in
    let label_fits = rw is at wrote.label_fits in
    let end = rw is at wrote.end in
    let fits = rw is at wrote.fits in
    let written = rw is at wrote.written in
    let seen = written_reads c.reads_back.ensures.volume_label _ _ _ _ label_fits end (fits.0 refl)
    c.write_file_system_volume_label.auto.buffer written in
    IfSome_of_ok _ c.from_uefi.result c.ok-2.result c.ok-2.ensures.value
    (is_named _ _ _ c.from_uefi.result c.from_uefi.ensures.verdict seen)
