use Rattle.std.proofs.Common.{arith, refl, ap, ◌∙◌, ◌≡◌, ◌≤◌, ℕ, Bool, true, false, List, [], ◌∷◌, length}
use Rattle.std.specs.Prelude.{if◌then◌else◌}
use mir.Val.{bool_byte}
use Rattle.uefi_base.specs.LittleEndian.{u64_bytes}
use Rattle.uefi_base.specs.Unaligned.{unit_bytes}
use Rattle.uefi_base.proofs.Parts.{none_put, then_put, then_kept}
use Rattle.uefi_records.specs.file.FileSystemInfo.{file_system_header, file_system_info_size, label_offset}
use Rattle.uefi_records.proofs.file.write.write_file_system_info.Goals as goal

byte_of : (read_only : Bool) → ◌≡◌ {A = List ℕ} (bool_byte read_only ∷ []) ((if read_only then 1 else 0) ∷ [])
byte_of true = refl
byte_of false = refl

pub returns-clause-written : goal.returns-clause-written
unfolding file_system_header
returns-clause-written c =
    let same = c.as_u16_with_nul-label.ensures.units in
    let size = c.in_ok-end.ensures.size ∙ ap (λ (units : List ℕ). file_system_info_size (length units)) same in
    let room : label_offset ≤ length c.args.buffer.now = omega (arith, c.in_ok-end.ensures.fits.0 refl) in
    let put1 = then_put (none_put label_offset c.args.buffer.now room) 8 refl refl
    (c.to_le_bytes.ensures ∙ ap u64_bytes size) c.put.ensures in
    let put2 = then_put put1 1 refl refl (byte_of c.args.read_only) c.put-2.ensures in
    let kept = then_kept put2 7 refl in
    let put3 = then_put kept 8 refl refl c.to_le_bytes-2.ensures c.put-3.ensures in
    let put4 = then_put put3 8 refl refl c.to_le_bytes-3.ensures c.put-4.ensures in
    let put5 = then_put put4 4 refl refl c.to_le_bytes-4.ensures c.put-5.ensures in
    (then_put put5 _ refl refl (ap unit_bytes same) c.put_units.ensures).is
