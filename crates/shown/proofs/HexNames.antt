-- The hex digits of names, as they are put together.
use Rattle.std.proofs.Common.{◌≡◌, ℕ, ◌+◌, ◌-◌, ◌*◌, ◌<◌, ◌≤◌, List, [], ◌∷◌, ◌++◌, length, take, drop, get_or, set}
use Rattle.std.proofs.Common.{flat_map, refl, sym, ◌∙◌, ap, arith, length-drop}
use Rattle.std.proofs.Math.Seq.{take-add}
use Rattle.std.proofs.lemmas.List.{take_more, flat_map_more, get_or-drop}
use Rattle.std.proofs.lemmas.Grind.{flat_map-append}
use Rattle.std.specs.Prelude.{codes, slice_range}
use Rattle.std.specs.Int.{w16, to_be_bytes}
use Rattle.hex.proofs.Pairs.{take-two_writes}
use Rattle.shown.specs.HexText.{hex_of}
use Rattle.shown.proofs.HexBlocks.{hex_of-append}
use Rattle.shown.specs.HexName.{units_hex, name_field}

-- A name with characters is shown behind a space.
pub name_field-some : (units : List ℕ) → 0 < length units → name_field units ≡ codes " " ++ units_hex units
unfolding name_field
name_field-some [] some = absurd (omega arith)
name_field-some (unit ∷ units) some = refl

-- A block of units more.
pub units_hex-more : (units block : List ℕ) (start end : ℕ) → start ≤ end
    → block ≡ flat_map (to_be_bytes w16) (slice_range units start end)
    → units_hex (take start units) ++ hex_of block ≡ units_hex (take end units)
units_hex-more units block start end order bytes =
    let prefix : List ℕ = take start units in
    let more : List ℕ = slice_range units start end in
    let all : start + (end - start) ≡ end = omega arith in
    ap (λ (b : List ℕ). units_hex prefix ++ hex_of b) bytes
    ∙ sym (hex_of-append (flat_map (to_be_bytes w16) prefix) (flat_map (to_be_bytes w16) more))
    ∙ ap hex_of (sym (flat_map-append (to_be_bytes w16) prefix more))
    ∙ ap units_hex (sym (take-add start (end - start) units) ∙ ap (λ (n : ℕ). take n units) all)

-- Two bytes more, those of a unit.
pub big_endian-more : (bytes units : List ℕ) (k start i unit high low : ℕ) → 2 * k + 1 < length bytes → start + k ≡ i
    → i < length units
    → unit ≡ get_or units i 0 → high ∷ low ∷ [] ≡ to_be_bytes w16 unit
    → take (2 * k) bytes ≡ flat_map (to_be_bytes w16) (take k (drop start units))
    → take (2 * (k + 1)) (set (set bytes (2 * k) high) (2 * k + 1) low)
    ≡ flat_map (to_be_bytes w16) (take (k + 1) (drop start units))
big_endian-more bytes units k start i unit high low room at_index within is_unit are_bytes before =
    let rest : List ℕ = drop start units in
    let next : 2 * (k + 1) ≡ 2 * k + 2 = omega arith in
    let value : unit ≡ get_or rest k 0 = is_unit ∙ ap (λ (n : ℕ). get_or units n 0) (sym at_index)
    ∙ sym (get_or-drop start units k 0) in
    let rest_length = length-drop start units in
    let joined = flat_map_more (to_be_bytes w16) [] (take k rest) (get_or rest k 0)
    ∙ ap (flat_map (to_be_bytes w16)) (sym (take_more rest k 0 (omega (arith, rest_length)))) in
    rw next (take-two_writes bytes (2 * k) high low room
    ∙ (λ j. before j ++ (are_bytes ∙ ap (to_be_bytes w16) value) j) ∙ joined)
