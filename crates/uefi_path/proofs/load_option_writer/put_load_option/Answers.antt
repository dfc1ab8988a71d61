use Rattle.std.proofs.Common.{◌∙◌, ◌+◌, ◌*◌, ◌≤◌, ap, arith, refl, length, rules}
use Rattle.uefi_base.specs.Buffer.{put_at}
use Rattle.uefi_base.specs.LittleEndian.{u16_bytes, u32_bytes}
use Rattle.uefi_base.specs.Unaligned.{unit_bytes}
use Rattle.uefi_base.proofs.UnitsBack.{units_read_back}
use Rattle.uefi_path.specs.LoadOptionFlags.{attribute_bits}
use Rattle.uefi_path.specs.LoadOptionParts.{description_units}
use Rattle.uefi_path.proofs.OptionParts.{five_put, option_put}
use Rattle.uefi_path.proofs.load_option_writer.put_load_option.Goals as goal

pub returns : goal.returns
returns c =
    let parts = c.args.parts.now in
    let list = parts.file_path_list.now in
    let units = description_units parts.description in
    let old = c.args.buffer.now in
    let sized = units_read_back.sized units in
    let room : 6 + 2 * length units + length list ≤ length old = omega (arith, c.requires.room) in
    let attributes = c.put.ensures
    ∙ ap (λ part. put_at 0 part old) (c.to_le_bytes.ensures ∙ ap u32_bytes c.bits.ensures) in
    let list_length = c.put-2.ensures ∙ ap (λ part. put_at 4 part c.put.new.buffer) c.to_le_bytes-2.ensures in
    option_put parts old c.put-5.new.buffer c.requires.parts
    (five_put (u32_bytes (attribute_bits parts.attributes)) (u16_bytes (length list)) (unit_bytes units) list
    parts.optional_data.now old c.put.new.buffer c.put-2.new.buffer c.put-3.new.buffer c.put-4.new.buffer
    c.put-5.new.buffer 4 6 (6 + 2 * length units) (6 + 2 * length units + length list) room refl refl
    (omega (arith, sized)) refl attributes list_length c.put-3.ensures (search rules) (search rules))
