-- The bytes of hex digits, two each.
use Rattle.std.proofs.Common.{◌≡◌, ◌≤◌, ◌<◌, ◌+◌, ◌*◌, ◌/◌, ◌%◌, ℕ, true, eqb, None, IsTrue, List, [], ◌∷◌, length, get_or, take, set, refl, arith, zero, suc}
use Rattle.std.specs.List.{list_all}
use Rattle.std.proofs.lemmas.List.{take_more, take_more_set, take_all}
use Rattle.std.proofs.lemmas.Bool.{and_parts, cond-false, false_from_ne_true, leb-true}
use Rattle.uefi_path_text.specs.parse.Values.{pairs_bytes, byte_at, bytes_in, are_pairs, is_hex_digit}
use Rattle.uefi_path_text.specs.declared.form.argument.Argument.TheVariants.{HardwareAddress}
use Rattle.uefi_path_text.proofs.arguments.Elements.{list_all-get_or}

-- There is a byte for two digits.
pub length-pairs_bytes : (text : List ℕ) → length (pairs_bytes text) ≡ length text / 2
length-pairs_bytes [] = refl
length-pairs_bytes (high ∷ []) = refl
length-pairs_bytes (high ∷ low ∷ more) = omega (arith, length-pairs_bytes more)

-- A byte is that of its two digits.
pub get_or-pairs_bytes : (text : List ℕ) (i : ℕ) → 2 * i + 1 < length text → get_or (pairs_bytes text) i 0 ≡ byte_at text (2 * i)
get_or-pairs_bytes [] i within = absurd (omega arith)
get_or-pairs_bytes (high ∷ []) i within = absurd (omega arith)
get_or-pairs_bytes (high ∷ low ∷ more) zero within = refl
get_or-pairs_bytes (high ∷ low ∷ more) (suc i) within =
    let first : 2 * suc i ≡ suc (suc (2 * i)) = omega arith in
    let second : suc (suc (2 * i)) + 1 ≡ suc (suc (2 * i + 1)) = omega arith in
    rw (first, second) (get_or-pairs_bytes more i (omega arith))

-- Each character of pairs is a hex digit.
pub digit_of_pairs : (text : List ℕ) (i : ℕ) → are_pairs text ≡ true → i < length text → is_hex_digit (get_or text i 0) ≡ true
digit_of_pairs text i pairs within =
    list_all-get_or is_hex_digit text i 0 within (and_parts (eqb (length text % 2) 0) (list_all is_hex_digit text) pairs).1

-- One more byte is written.
pub one_more_pair : (bytes text : List ℕ) (i byte : ℕ) → 2 * length bytes ≡ length text → i < length bytes → take i bytes ≡ take i (pairs_bytes text) → byte ≡ byte_at text (2 * i) → take (i + 1) (set bytes i byte) ≡ take (i + 1) (pairs_bytes text)
one_more_pair bytes text i byte room within so_far is =
    let inside : i < length (pairs_bytes text) = omega (arith, length-pairs_bytes text) in
    rw (take_more_set bytes i byte within, take_more (pairs_bytes text) i 0 inside, so_far, is, get_or-pairs_bytes text i (omega arith)) refl

-- All bytes are written.
pub all_pairs : (bytes text : List ℕ) (i : ℕ) → 2 * length bytes ≡ length text → length bytes ≤ i → take i bytes ≡ take i (pairs_bytes text) → bytes ≡ pairs_bytes text
all_pairs bytes text i room past so_far =
    rw (take_all i bytes past, take_all i (pairs_bytes text) (omega (arith, length-pairs_bytes text))) at so_far

-- Other texts are no address of network hardware.
pub no_hardware_address : (text : List ℕ) → ¬ (IsTrue (are_pairs text) × (length text ≤ 2 * 32))
    → bytes_in HardwareAddress text ≡ None
unfolding bytes_in
no_hardware_address text none =
    cond-false _ _ _ (false_from_ne_true _ (λ is. let parts = and_parts _ _ is in none (parts.0, leb-true _ _ parts.1)))
