use Rattle.std.proofs.Common.{arith, rules}
use Rattle.uefi_base.proofs.UnitsOfBytes.{half_as_many_units}
use Rattle.uefi_c.specs.Ucs2.{IsUcs2}
use Rattle.uefi_c.proofs.write_info.record_size.Goals as goal

pub returns : goal.returns
returns c =
    let is : IsUcs2 c.args.name.now = search rules in (
      is,
      omega (arith, half_as_many_units c.args.name.now, is.even),
      omega arith,
    )
