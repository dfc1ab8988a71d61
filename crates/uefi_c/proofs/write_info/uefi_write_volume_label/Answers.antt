use Rattle.std.proofs.Common.{arith, rules, sym}
use Rattle.uefi_base.specs.Unaligned.{unit_bytes, units_of}
use Rattle.uefi_base.proofs.Parts.{put_first}
use Rattle.uefi_base.proofs.UnitsBack.{units_read_back}
use Rattle.uefi_c.specs.Ucs2.{IsUcs2}
use Rattle.uefi_c.proofs.write_info.uefi_write_volume_label.Goals as goal

pub returns-clause-written : goal.returns-clause-written
returns-clause-written c = λ _.
    let is : IsUcs2 c.args.label.now = search rules in
    put_first c.args.label.now (unit_bytes (units_of c.args.label.now)) c.args.buffer.now c.put.new.buffer
    (sym (units_read_back.read c.args.label.now (λ i. omega (arith, c.type_inv.label i)) is.even)) c.put.ensures
