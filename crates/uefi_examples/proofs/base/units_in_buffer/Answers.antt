use Rattle.std.proofs.Common.{arith, ap, ◌∙◌, ◌+◌, ◌*◌, List, ℕ, length, take, drop}
use Rattle.std.proofs.lemmas.List.{take_at}
use Rattle.uefi_base.specs.Unaligned.{AreUnits, unit_bytes, units_of}
use Rattle.uefi_examples.proofs.base.units_in_buffer.Goals as goal

-- The units that were written are read from the bytes that they took.
pub returns : goal.returns
returns c =
    let law = c.units_read_back.ensures in
    let units = c.args.units.now in
    let rest : List ℕ = drop (0 + length (unit_bytes units)) c.args.buffer.now in
    let are_units : AreUnits units = λ k. omega (arith, c.type_inv.units k) in
    let bytes = ap (take (2 * length units)) c.put_units.ensures
    ∙ take_at (unit_bytes units) rest (2 * length units) (law.sized units) in
    c.new.ensures ∙ ap units_of bytes ∙ law.written units are_units
