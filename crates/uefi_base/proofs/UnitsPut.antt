-- Units that are written into a buffer one after another.
use Rattle.std.proofs.Common.{◌≡◌, ℕ, ◌+◌, ◌*◌, ◌<◌, ◌≤◌, List, [], ◌++◌, length, get_or, take, sym, ◌∙◌, ap, arith}
use Rattle.std.proofs.lemmas.List.{take_more, length-take-le, flat_map_more}
use Rattle.uefi_base.specs.Buffer.{put_at}
use Rattle.uefi_base.specs.LittleEndian.{u16_bytes}
use Rattle.uefi_base.proofs.Parts.{put_next}
use Rattle.uefi_base.specs.Unaligned.{unit_bytes}
use Rattle.uefi_base.proofs.UnitsBack.{units_read_back}

-- Writing one more unit after the first i.
pub units_put : (offset i : ℕ) (units bytes now : List ℕ) → i < length units
    → offset + 2 * length units ≤ length bytes → now ≡ put_at offset (unit_bytes (take i units)) bytes
    → put_at (offset + 2 * i) (u16_bytes (get_or units i 0)) now ≡ put_at offset (unit_bytes (take (i + 1) units)) bytes
units_put offset i units bytes now within room so_far =
    let sized : length (unit_bytes (take i units)) ≡ 2 * i = units_read_back.sized (take i units)
    ∙ ap (λ n. 2 * n) (length-take-le i units (omega arith)) in
    let more : unit_bytes (take i units) ++ u16_bytes (get_or units i 0) ≡ unit_bytes (take (i + 1) units) =
    flat_map_more u16_bytes [] (take i units) (get_or units i 0) ∙ ap unit_bytes (sym (take_more units i 0 within)) in
    (λ n. put_at (offset + sym sized n) (u16_bytes (get_or units i 0)) (so_far n))
    ∙ put_next offset (unit_bytes (take i units)) (u16_bytes (get_or units i 0)) bytes (omega arith)
    ∙ ap (λ part. put_at offset part bytes) more
