-- The items of a text part by part, and a buffer that is filled with them.
use Rattle.std.proofs.Common.{◌≡◌, ℕ, ◌+◌, ◌*◌, ◌%◌, ◌<◌, ◌≤◌, List, ◌∷◌, ◌++◌, length, get_or, take, drop}
use Rattle.std.proofs.Common.{ap, ◌∙◌, arith, append_assoc}
use lib.Lanes.{chunk}
use Rattle.std.proofs.lemmas.Simd.{chunk-drop, length-chunk}
use Rattle.std.proofs.lemmas.List.{drop_all, drop_more}
use Rattle.uefi_hii.specs.Hex.{byte_of_one, byte_of_two, hex}
use Rattle.uefi_hii.specs.private.Filling.{IsFilledTo}
use Rattle.uefi_hii.proofs.HexEnds.{hex-append, length-hex}

-- the items of a block, and then the others
pub hex-block : (at : ℕ) (text : List ℕ) → 2 * at + 32 ≤ length text
    → hex (drop (2 * at) text) ≡ hex (chunk (2 * at) 32 text) ++ hex (drop (2 * (at + 16)) text)
hex-block at text room =
    let next : 2 * at + 32 ≡ 2 * (at + 16) = omega arith in
    let even : length (chunk (2 * at) 32 text) % 2 ≡ 0 = omega (arith, length-chunk (2 * at) 32 text room) in
    ap hex (chunk-drop (2 * at) 32 text) ∙ hex-append (chunk (2 * at) 32 text) (drop (2 * at + 32) text) even
    ∙ ap (λ k. hex (chunk (2 * at) 32 text) ++ hex (drop k text)) next

pub length-block : (at : ℕ) (text : List ℕ) → 2 * at + 32 ≤ length text → length (hex (chunk (2 * at) 32 text)) ≡ 16
length-block at text room =
    omega (arith, length-hex (chunk (2 * at) 32 text), length-chunk (2 * at) 32 text room)

-- the item of two bytes, and then the others
pub hex_two : (at : ℕ) (text : List ℕ) → 2 * at + 1 < length text
    → hex (drop (2 * at) text) ≡ byte_of_two (get_or text (2 * at) 0) (get_or text (2 * at + 1) 0) ∷ hex
    (drop (2 * (at + 1)) text)
hex_two at text room =
    let next : 2 * at + 1 + 1 ≡ 2 * (at + 1) = omega arith in
    rw (drop_more text (2 * at) 0 (omega arith), drop_more text (2 * at + 1) 0 room, next)

-- the item of a last byte alone
pub hex_one : (at : ℕ) (text : List ℕ) → 2 * at < length text → length text ≤ 2 * at + 1
    → hex (drop (2 * at) text) ≡ byte_of_one (get_or text (2 * at) 0) ∷ hex (drop (2 * (at + 1)) text)
hex_one at text room last =
    rw (drop_more text (2 * at) 0 room, drop_all (2 * at + 1) text last, drop_all (2 * (at + 1)) text (omega arith))

-- n more items that are the text's
pub filled_more : (at n : ℕ) (text out new items : List ℕ) → IsFilledTo at text out
    → take (at + n) new ≡ take at out ++ items
    → hex (drop (2 * at) text) ≡ items ++ hex (drop (2 * (at + n)) text) → IsFilledTo (at + n) text new
filled_more at n text out new items before stored split = rw (stored, append_assoc, ← split) before
