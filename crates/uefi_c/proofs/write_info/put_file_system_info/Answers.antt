use Rattle.std.proofs.Common.{arith, refl, sym, ap, ◌∙◌, ◌≡◌, ◌≤◌, ℕ, Bool, true, false, List, [], ◌∷◌, length}
use Rattle.std.specs.Prelude.{if◌then◌else◌}
use mir.Val.{bool_byte}
use Rattle.uefi_base.specs.LittleEndian.{u64_bytes}
use Rattle.uefi_base.proofs.Parts.{none_put, then_put, then_kept}
use Rattle.uefi_base.proofs.UnitsBack.{units_read_back}
use Rattle.uefi_records.specs.file.FileSystemInfo.{file_system_header, label_offset}
use Rattle.uefi_c.proofs.write_info.put_file_system_info.Goals as goal

byte_of : (read_only : Bool) → ◌≡◌ {A = List ℕ} (bool_byte read_only ∷ []) ((if read_only then 1 else 0) ∷ [])
byte_of true = refl
byte_of false = refl

pub returns : goal.returns
unfolding file_system_header
returns c =
    let room : label_offset ≤ length c.args.buffer.now = omega (arith, c.requires.size, c.requires.room) in
    let put1 = then_put (none_put label_offset c.args.buffer.now room) 8 refl refl
    (c.to_le_bytes.ensures ∙ ap u64_bytes c.requires.size) c.put.ensures in
    let put2 = then_put put1 1 refl refl (byte_of c.args.info.now.read_only) c.put-2.ensures in
    let kept = then_kept put2 7 refl in
    let put3 = then_put kept 8 refl refl c.to_le_bytes-2.ensures c.put-3.ensures in
    let put4 = then_put put3 8 refl refl c.to_le_bytes-3.ensures c.put-4.ensures in
    let put5 = then_put put4 4 refl refl c.to_le_bytes-4.ensures c.put-5.ensures in
    (then_put put5 _ refl refl
    (sym (units_read_back.read c.args.label.now (λ i. omega (arith, c.type_inv.label i)) c.requires.even)) c.put-6.ensures).is
