-- The lanes of a vector of characters, and the digits that they are.
use Rattle.std.proofs.Common.{◌≡◌, ℕ, ◌+◌, ◌*◌, ◌%◌, ◌^◌, ◌<◌, ◌≤◌, eqb, Bool, true, not, ◌&&◌, ◌||◌, cond, List, []}
use Rattle.std.proofs.Common.{◌∷◌, map, length, refl, ap, ap₂, ◌∙◌, arith}
use Rattle.std.proofs.lemmas.Bool.{agree_below, agree_below_at, and_parts, eqb-true}
use Rattle.std.proofs.lemmas.Bool.Decides.{nat_tests}
use Rattle.std.proofs.lemmas.Simd.{map-map, mask_l-mod}
use Rattle.std.proofs.lemmas.List.{length-map}
use Rattle.std.specs.List.{list_all}
use lib.Lanes.{Each1, mask_l, top, sel_l}
use Rattle.uefi_hii.specs.Hex.{byte_of_one}
use Rattle.uefi_hii.specs.private.Filling.{is_hex_digit}

-- a choice between two vectors, where all three were computed lane by lane from v
sel_map : (m : ℕ → Bool) (f g : ℕ → ℕ) (v : List ℕ)
    → sel_l (map m v) (map f v) (map g v) ≡ map (λ x. cond (m x) (f x) (g x)) v
sel_map m f g [] = refl
sel_map m f g (x ∷ v) = ap (λ r. cond (m x) (f x) (g x) ∷ r) (sel_map m f g v)

pub chosen : (m f g : ℕ → ℕ) (v : List ℕ) {a b d : List ℕ} → a ≡ map m v → b ≡ map f v → d ≡ map g v
    → sel_l (map (top 7) a) b d ≡ map (λ x. cond (top 7 (m x)) (f x) (g x)) v
chosen m f g v p q r = rw (p, q, r, map-map (top 7) m v) (sel_map (λ x. top 7 (m x)) f g v)

-- two lane functions that agree on each hex digit below 256
value_at : (f : ℕ → ℕ) (x : ℕ)
    → agree_below (λ y. not (is_hex_digit y) || eqb (f y) (byte_of_one y)) (λ _. true) 256 ≡ true → x < 256
    → is_hex_digit x ≡ true → f x ≡ byte_of_one x
value_at f x all small hex =
    let same = agree_below_at (λ y. not (is_hex_digit y) || eqb (f y) (byte_of_one y)) (λ _. true) 256 x all small in
    eqb-true (f x) (byte_of_one x) (rw hex at same)

pub values_agree : (f : ℕ → ℕ)
    → agree_below (λ y. not (is_hex_digit y) || eqb (f y) (byte_of_one y)) (λ _. true) 256 ≡ true
    → (v : List ℕ) → Each1 (λ x. x < 256) v → list_all is_hex_digit v ≡ true → map f v ≡ map byte_of_one v
values_agree f all [] h t = refl
values_agree f all (x ∷ v) h t =
    let digits = and_parts (is_hex_digit x) (list_all is_hex_digit v) t in
    ap₂ (λ y r. y ∷ r) (value_at f x all h.0 digits.0) (values_agree f all v h.1 digits.1)

-- so a test of lanes that is theirs holds of all if and only if theirs does
tests_agree : (f g : ℕ → Bool) → agree_below f g 256 ≡ true → (v : List ℕ) → Each1 (λ x. x < 256) v
    → list_all f v ≡ list_all g v
tests_agree f g all [] h = refl
tests_agree f g all (x ∷ v) h = ap₂ (λ a b. a && b) (agree_below_at f g 256 x all h.0) (tests_agree f g all v h.1)

mask_step : (b : Bool) (m : ℕ) (r : Bool) → eqb m 0 ≡ r → eqb (cond b 1 0 + 2 * m) 0 ≡ not b && r
mask_step b m r h = grind (arith, nat_tests)

mask_none : (p : ℕ → Bool) (v : List ℕ) → eqb (mask_l (map p v)) 0 ≡ list_all (λ x. not (p x)) v
mask_none p [] = refl
mask_none p (x ∷ v) = mask_step (p x) (mask_l (map p v)) (list_all (λ y. not (p y)) v) (mask_none p v)

-- the mask of the lanes that f marks is 0 exactly where each lane is a hex digit
pub none_wrong : (f : ℕ → ℕ) (v : List ℕ) {z : List ℕ} (r : Bool) → r ≡ eqb (mask_l (map (top 7) z) % 2 ^ 64) 0
    → length v ≡ 16 → Each1 (λ x. x < 256) v → z ≡ map f v
    → agree_below (λ x. not (top 7 (f x))) is_hex_digit 256 ≡ true → r ≡ list_all is_hex_digit v
none_wrong f v r found long small e all =
    let short : length (map (λ x. top 7 (f x)) v) ≤ 64 = omega (arith, length-map v (λ x. top 7 (f x))) in
    found ∙ rw (e, map-map (top 7) f v, mask_l-mod (map (λ x. top 7 (f x)) v) 64 short)
    (mask_none (λ x. top 7 (f x)) v ∙ tests_agree (λ x. not (top 7 (f x))) is_hex_digit all v small)
