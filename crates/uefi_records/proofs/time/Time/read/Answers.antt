use Rattle.std.proofs.Common.{arith, ◌∙◌, ap, to_z-of_z, rules, w16}
use Rattle.std.specs.Int.{cast_signed}
use Rattle.uefi_records.proofs.time.ReadBack.{made_stands_in}
use Rattle.uefi_records.proofs.time.Time.read.Goals as goal

pub returns-clause-stands : goal.returns-clause-stands
returns-clause-stands c =
    let zone = to_z-of_z {w = w16} (search rules) ∙ c.cast_signed.ensures ∙ ap (cast_signed w16) c.u16_at-2.ensures in
    made_stands_in c.args.bytes.now _ _ _ _
    (λ i. omega (arith, c.type_inv.bytes i)) c.requires c.u16_at.ensures c.u32_at.ensures zone
    c.from_bits_retain.ensures
