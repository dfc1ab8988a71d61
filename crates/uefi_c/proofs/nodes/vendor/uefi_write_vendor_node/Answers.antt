use Rattle.std.proofs.Common.{sym}
use Rattle.uefi_c.proofs.VendorNodes.{vendor_is, vendor_written}
use Rattle.uefi_c.proofs.nodes.vendor.uefi_write_vendor_node.Goals as goal

pub returns-clause-too_long : goal.returns-clause-too_long
returns-clause-too_long c =
    let node = c.args.node.now in
    let has = sym c.in-Some.ensures in
    let long = c.write_parts-status.ensures.long in (
      λ so. (_, vendor_is node c.in-Some.sub_type.0 has, long.0 so),
      λ so. (vendor_written node _ _ _ _ _ so.0 has so.1 c.write_parts-status.ensures).long.1 so.2,
    )

pub returns-clause-written : goal.returns-clause-written
returns-clause-written c = λ so vendor is.
    (vendor_written c.args.node.now _ _ _ _ _ vendor (sym c.in-Some.ensures) is c.write_parts-status.ensures).written so

pub returns-clause-size : goal.returns-clause-size
returns-clause-size c = λ so vendor is.
    (vendor_written c.args.node.now _ _ _ _ _ vendor (sym c.in-Some.ensures) is c.write_parts-status.ensures).needed so
