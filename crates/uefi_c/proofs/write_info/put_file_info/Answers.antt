use Rattle.std.proofs.Common.{arith, refl, sym, ap, ◌∙◌, ◌≤◌, length}
use Rattle.uefi_base.specs.LittleEndian.{u64_bytes}
use Rattle.uefi_base.proofs.Parts.{none_put, then_put}
use Rattle.uefi_base.proofs.UnitsBack.{units_read_back}
use Rattle.uefi_records.specs.time.Fields.{time_bytes}
use Rattle.uefi_records.specs.file.FileInfo.{file_header, file_name_offset}
use Rattle.uefi_c.proofs.write_info.put_file_info.Goals as goal

pub returns : goal.returns
unfolding file_header time_bytes
returns c =
    let room : file_name_offset ≤ length c.args.buffer.now = omega (arith, c.requires.size, c.requires.room) in
    let put1 = then_put (none_put file_name_offset c.args.buffer.now room) 8 refl refl
    (c.to_le_bytes.ensures ∙ ap u64_bytes c.requires.size) c.put.ensures in
    let put2 = then_put put1 8 refl refl c.to_le_bytes-2.ensures c.put-2.ensures in
    let put3 = then_put put2 8 refl refl c.to_le_bytes-3.ensures c.put-3.ensures in
    let put4 = then_put put3 16 refl refl c.bytes_of.ensures c.put-4.ensures in
    let put5 = then_put put4 16 refl refl c.bytes_of-2.ensures c.put-5.ensures in
    let put6 = then_put put5 16 refl refl c.bytes_of-3.ensures c.put-6.ensures in
    let put7 = then_put put6 8 refl refl c.to_le_bytes-4.ensures c.put-7.ensures in
    (then_put put7 _ refl refl
    (sym (units_read_back.read c.args.name.now (λ i. omega (arith, c.type_inv.name i)) c.requires.even)) c.put-8.ensures).is
