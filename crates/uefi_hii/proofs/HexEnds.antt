-- How many bytes hex spells, and the last of them.
use Rattle.std.proofs.Common.{◌≡◌, ◌≢◌, ℕ, ◌+◌, ◌*◌, ◌/◌, ◌%◌, ◌≤◌, List, [], ◌∷◌, ◌++◌, length, refl, ap, arith}
use Rattle.std.proofs.Common.{append_assoc, length-append}
use Rattle.uefi_hii.specs.Hex.{byte_of_one, byte_of_two, hex}

-- A byte for each two characters, and for an odd last one.
pub length-hex : (text : List ℕ) → length (hex text) ≡ length text / 2 + length text % 2
length-hex [] = refl
length-hex (c ∷ []) = refl
length-hex (c ∷ d ∷ text) = let others = length-hex text in omega (arith, others)

-- They are at most as many as the characters.
pub few_bytes : (text : List ℕ) → length (hex text) ≤ length text
few_bytes text = omega (arith, length-hex text)

-- Two characters spell a byte, but for an odd last one.
pub two_a_byte : (text : List ℕ) → (2 * length (hex text) ≤ length text + 1) × (length text ≤ 2 * length (hex text))
two_a_byte text = (omega (arith, length-hex text), omega (arith, length-hex text))

-- Two texts spell what both spell, where the first has an even number of characters.
pub hex-append : (v w : List ℕ) → length v % 2 ≡ 0 → hex (v ++ w) ≡ hex v ++ hex w
hex-append [] w even = refl
hex-append (x ∷ []) w even = absurd (omega arith)
hex-append (x ∷ y ∷ v) w even = ap (λ bytes. byte_of_two x y ∷ bytes) (hex-append v w (omega arith))

-- The last byte of a text with an odd number of characters, and of one with an even number.
pub last_of_one : (text front : List ℕ) (c : ℕ) → text ≡ front ++ c ∷ [] → length text % 2 ≢ 0
    → hex text ≡ hex front ++ byte_of_one c ∷ []
last_of_one text front c e odd =
    rw e (hex-append front (c ∷ []) (omega (arith, ap length e, length-append front (c ∷ []))))

pub last_of_two : (text more front : List ℕ) (c d : ℕ) → text ≡ more ++ d ∷ [] → more ≡ front ++ c ∷ []
    → length text % 2 ≡ 0 → hex text ≡ hex front ++ byte_of_two c d ∷ []
last_of_two text more front c d e m even =
    let whole : text ≡ front ++ c ∷ d ∷ [] = rw (e, m, append_assoc front (c ∷ []) (d ∷ [])) in
    rw whole (hex-append front (c ∷ d ∷ []) (omega (arith, ap length whole, length-append front (c ∷ d ∷ []))))
