use Rattle.std.proofs.Common.{arith, refl, ap, ◌∙◌, ◌≤◌, ℕ, List, length}
use Rattle.uefi_base.specs.LittleEndian.{u64_bytes}
use Rattle.uefi_base.specs.Unaligned.{unit_bytes}
use Rattle.uefi_base.proofs.Parts.{none_put, then_put}
use Rattle.uefi_records.specs.time.Fields.{time_bytes}
use Rattle.uefi_records.specs.file.FileInfo.{file_header, file_info_size, file_name_offset}
use Rattle.uefi_records.proofs.file.write.write_file_info.Goals as goal

pub returns-clause-written : goal.returns-clause-written
unfolding file_header time_bytes
returns-clause-written c =
    let same = c.as_u16_with_nul-name.ensures.units in
    let size = c.in_ok-end.ensures.size ∙ ap (λ (units : List ℕ). file_info_size (length units)) same in
    let room : file_name_offset ≤ length c.args.buffer.now = omega (arith, c.in_ok-end.ensures.fits.0 refl) in
    let put1 = then_put (none_put file_name_offset c.args.buffer.now room) 8 refl refl
    (c.to_le_bytes.ensures ∙ ap u64_bytes size) c.put.ensures in
    let put2 = then_put put1 8 refl refl c.to_le_bytes-2.ensures c.put-2.ensures in
    let put3 = then_put put2 8 refl refl c.to_le_bytes-3.ensures c.put-3.ensures in
    let put4 = then_put put3 16 refl refl c.to_bytes.ensures.bytes c.put-4.ensures in
    let put5 = then_put put4 16 refl refl c.to_bytes-2.ensures.bytes c.put-5.ensures in
    let put6 = then_put put5 16 refl refl c.to_bytes-3.ensures.bytes c.put-6.ensures in
    let put7 = then_put put6 8 refl refl (c.to_le_bytes-4.ensures ∙ ap u64_bytes c.bits.ensures) c.put-7.ensures in
    (then_put put7 _ refl refl (ap unit_bytes same) c.put_units.ensures).is
