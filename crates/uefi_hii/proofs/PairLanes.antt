-- Every other element of a list, and the items that pairs of digits stand for.
use Rattle.std.proofs.Common.{◌≡◌, ℕ, ◌+◌, ◌*◌, ◌%◌, ◌<◌, ◌≤◌, zero, suc, true, List, [], ◌∷◌, ◌++◌, map, length}
use Rattle.std.proofs.Common.{get_or, take, drop, replicate, refl, sym, subst, ap, ap₂, ◌∙◌, arith, w8, Fits, lit<}
use Rattle.std.specs.List.{list_all}
use lib.Lanes.{Each1, zip2, chunk, pick_l}
use lib.Seq.{take-add}
use Rattle.std.proofs.lemmas.Bool.{and_parts}
use Rattle.std.proofs.lemmas.Simd.{length-chunk, chunk-fits, below_from_Fits}
use Rattle.std.proofs.lemmas.List.{drop-drop}
use Rattle.uefi_hii.specs.Hex.{two_digits, byte_of_one, byte_of_two, hex}
use Rattle.uefi_hii.specs.private.Filling.{is_hex_digit}
use Rattle.uefi_hii.proofs.HexBounds.{hex_digit_small}

-- n indices from i on, each two above the one before
abbrev twos : ℕ → ℕ → List ℕ
twos i zero = []
twos i (suc n) = i ∷ twos (suc (suc i)) n

past_two : (x y : ℕ) (v : List ℕ) (i n : ℕ) → pick_l 0 (x ∷ y ∷ v) (twos (suc (suc i)) n) ≡ pick_l 0 v (twos i n)
past_two x y v i zero = refl
past_two x y v i (suc n) = ap (λ r. get_or v i 0 ∷ r) (past_two x y v (suc (suc i)) n)

-- the byte of two digits, as lanes compute it
byte_of_digits : (x y : ℕ) → is_hex_digit x ≡ true → is_hex_digit y ≡ true
    → (byte_of_one x * 16 % 256 + byte_of_one y) % 256 ≡ byte_of_two x y
unfolding byte_of_two byte_of_one two_digits
byte_of_digits x y p q = grind (arith, hex_digit_small x, hex_digit_small y)

-- the items of pairs of digits are the sums of the lanes
hex_lanes : (n : ℕ) (v : List ℕ) → length v ≡ 2 * n → list_all is_hex_digit (pick_l 0 v (twos 0 n)) ≡ true
    → list_all is_hex_digit (pick_l 0 v (twos 1 n)) ≡ true
    → zip2 (λ a b. (a + b) % 256)
    (zip2 (λ a b. a * b % 256) (map byte_of_one (pick_l 0 v (twos 0 n))) (replicate n 16))
    (map byte_of_one (pick_l 0 v (twos 1 n))) ≡ hex v
hex_lanes zero [] e p q = refl
hex_lanes zero (x ∷ v) e p q = absurd (omega arith)
hex_lanes (suc n) [] e p q = absurd (omega arith)
hex_lanes (suc n) (x ∷ []) e p q = absurd (omega arith)
hex_lanes (suc n) (x ∷ y ∷ v) e p q =
    let evens = past_two x y v 0 n in
    let odds = past_two x y v 1 n in
    let high = and_parts (is_hex_digit x) _ p in
    let low = and_parts (is_hex_digit y) _ q in
    rw (evens, odds)
    (ap₂ (λ b r. b ∷ r) (byte_of_digits x y high.0 low.0)
    (hex_lanes n v (omega arith) (rw evens at high.1) (rw odds at low.1)))

-- the lanes of two vectors that stand side by side in a text, every other one from j on, as `deinterleave` gives them
abbrev half : ℕ → ℕ → List ℕ → List ℕ
half j i xs = pick_l 0 (chunk i 16 xs ++ chunk (i + 16) 16 xs) (twos j 16)

joined_chunks : (i : ℕ) (xs : List ℕ) → chunk i 16 xs ++ chunk (i + 16) 16 xs ≡ chunk i 32 xs
joined_chunks i xs =
    ap (λ r. take 16 (drop i xs) ++ take 16 r) (sym (drop-drop 16 i xs)) ∙ sym (take-add 16 16 (drop i xs))

-- both halves are digits, and so the sum of the lanes is the items
pub block_items : (i : ℕ) (xs : List ℕ) → i + 32 ≤ length xs → (p q : List ℕ)
    → list_all is_hex_digit (half 0 i xs) ≡ true → list_all is_hex_digit (half 1 i xs) ≡ true
    → p ≡ map byte_of_one (half 0 i xs) → q ≡ map byte_of_one (half 1 i xs)
    → zip2 (λ a b. (a + b) % 256) (zip2 (λ a b. a * b % 256) p (replicate 16 16)) q ≡ hex (chunk i 32 xs)
block_items i xs room p q all_high all_low high low =
    let whole = joined_chunks i xs in
    let picked = λ (j : ℕ). ap (λ v. pick_l 0 v (twos j 16)) whole in
    ap₂ (λ a b. zip2 (λ a b. (a + b) % 256) (zip2 (λ a b. a * b % 256) a (replicate 16 16)) b)
    (high ∙ ap (map byte_of_one) (picked 0)) (low ∙ ap (map byte_of_one) (picked 1))
    ∙ hex_lanes 16 (chunk i 32 xs) (length-chunk i 32 xs room)
    (sym (ap (list_all is_hex_digit) (picked 0)) ∙ all_high) (sym (ap (list_all is_hex_digit) (picked 1)) ∙ all_low)

-- the lanes of both halves are bytes
pick_small : (v : List ℕ) (k : ℕ) → Each1 (λ x. x < 256) v → get_or v k 0 < 256
pick_small [] k small = lit< tt
pick_small (x ∷ v) zero small = small.0
pick_small (x ∷ v) (suc k) small = pick_small v k small.1

picks_small : (v ks : List ℕ) → Each1 (λ x. x < 256) v → Each1 (λ x. x < 256) (pick_l 0 v ks)
picks_small v [] small = tt
picks_small v (k ∷ ks) small = (pick_small v k small, picks_small v ks small)

pub half_fits : (j i : ℕ) (xs : List ℕ) → ((k : ℕ) → Fits w8 (get_or xs k 0)) → Each1 (λ x. x < 256) (half j i xs)
half_fits j i xs fits =
    subst (λ v. Each1 (λ x. x < 256) (pick_l 0 v (twos j 16))) (sym (joined_chunks i xs))
    (picks_small (chunk i 32 xs) (twos j 16) (below_from_Fits w8 (chunk i 32 xs) (chunk-fits w8 i 32 xs fits)))
