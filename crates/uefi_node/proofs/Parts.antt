-- Parts that are written one after another.
use Rattle.std.proofs.Common.{◌≡◌, ℕ, ◌+◌, ◌-◌, ◌*◌, ◌≤◌, List, [], ◌∷◌, ◌++◌, length, take, drop, get_or, refl, ◌∙◌, ap, arith, length-append, append_assoc}
use Rattle.std.proofs.lemmas.List.{take_all}
use Rattle.std.specs.Borrow.{Bor}
use Rattle.uefi_base.specs.Buffer.{put_at, put_prefix}
use Rattle.uefi_base.specs.Unaligned.{unit_bytes}
use Rattle.uefi_base.proofs.Parts.{put_next, put_first, put_more}
use Rattle.uefi_base.proofs.UnitsBack.{units_read_back}
use Rattle.uefi_node.specs.private.Fields.{parts_bytes}

-- The first part and then the others are all parts.
pub first_then : (parts : List (Bor (List ℕ))) (none : Bor (List ℕ)) (old now next : List ℕ) (offset : ℕ)
    → 1 ≤ length parts → offset + length (parts_bytes parts) ≤ length old
    → now ≡ put_at offset (get_or parts 0 none).now old
    → next ≡ put_at (offset + length (get_or parts 0 none).now) (parts_bytes (take (length parts - 1) (drop 1 parts))) now
    → next ≡ put_at offset (parts_bytes parts) old
first_then [] none old now next offset some room first others = absurd (omega (arith, some))
first_then (part ∷ parts) none old now next offset some room first others =
    let more : List ℕ = parts_bytes parts in
    let within : offset + length part.now ≤ length old = omega (arith, room, length-append part.now more) in
    let all : take (length (part ∷ parts) - 1) parts ≡ parts = take_all (length (part ∷ parts) - 1) parts (omega arith) in
    others ∙ ap (λ ps. put_at (offset + length part.now) (parts_bytes ps) now) all
    ∙ ap (λ b. put_at (offset + length part.now) more b) first ∙ put_next offset part.now more old within

-- Units have two bytes each.
pub units_sized : (units : List ℕ) → length (unit_bytes units) ≡ 2 * length units
units_sized units = units_read_back.sized units

-- The header, the fields and the tail, put one after another.
pub node_put : (header fields tail old first second new : List ℕ) → length header ≡ 4
    → 4 + (length fields + length tail) ≤ length old → first ≡ put_at 0 header old → second ≡ put_at 4 fields first
    → new ≡ put_at (4 + length fields) tail second → new ≡ put_prefix (header ++ (fields ++ tail)) old
node_put header fields tail old first second new four room is_first is_second is =
    let begun : first ≡ put_prefix header old = put_first header header old first refl is_first in
    let filled : second ≡ put_prefix (header ++ fields) old =
    put_more 4 header fields fields old first second begun four (omega (arith, room)) refl is_second in
    let long : length (header ++ fields) ≡ 4 + length fields =
    length-append header fields ∙ ap (λ n. n + length fields) four in
    let all : new ≡ put_prefix (header ++ fields ++ tail) old =
    put_more (4 + length fields) (header ++ fields) tail tail old second new filled long (omega (arith, room)) refl is in
    all ∙ ap (λ b. put_prefix b old) (append_assoc header fields tail)
