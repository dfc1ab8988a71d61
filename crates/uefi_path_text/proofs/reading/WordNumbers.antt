-- Numbers in the place of words.
use Rattle.std.proofs.Common.{◌≡◌, ℕ, ◌+◌, ◌*◌, ◌^◌, ◌<◌, ◌≤◌, ◌==◌, List, [], ◌∷◌, Bool, true, false, refl, arith, slice_index, codes, ap, ◌∙◌, Some, None, lt-ltb, ne_eqb, nat_le, leb-true}
use Rattle.std.specs.List.{list_all, find}
use Rattle.std.specs.Fmt.{decimal}
use Rattle.std.specs.Str.{bytes_eq}
use Rattle.std.specs.Str.Parse.{AllDigits}
use Rattle.std.specs.Option.{option_map}
use Rattle.std.proofs.lemmas.Bool.{and_parts, and_left, cond-false}
use Rattle.std.proofs.lemmas.Fmt.{decimal_is_IsNumeral}
use Rattle.std.proofs.lemmas.Str.Parse.{digit_from_value}
use Rattle.uefi_path_text.specs.text.Arguments.{hex}
use Rattle.uefi_path_text.specs.parse.Parts.{given}
use Rattle.uefi_path_text.specs.parse.Values.{below, bay_info, low_first, or_number, word_bytes, number_bytes, bytes_in}
use Rattle.uefi_path_text.specs.form.Words.{words, are_numbers}
use Rattle.uefi_path_text.specs.declared.form.words.Words.{Words}
use Rattle.uefi_path_text.specs.declared.form.words.Words.TheVariants.{Protocol, Default}
use Rattle.uefi_path_text.specs.declared.form.argument.Argument.TheVariants.{DriveBay}
use Rattle.uefi_path_text.proofs.reading.Numerals.{number_below, hex_read, decimal_read, number_in_own_hex}

-- The word begins with what is no decimal digit, but a character after them.
abbrev pub is_late : List ℕ × ℕ → Bool
is_late word = nat_le 58 (slice_index word.0 0)

-- A text that begins with a digit is no such word.
other_word : (word text : List ℕ) → nat_le 58 (slice_index word 0) ≡ true → slice_index text 0 < 58
    → bytes_eq word text ≡ false
other_word [] text late early = absurd (omega (arith, leb-true 58 0 late))
other_word (c ∷ word) [] late early = refl
other_word (c ∷ word) (d ∷ text) late early =
    and_left _ _ (ne_eqb c d (λ is. omega (arith, is, early, leb-true 58 c late)))

pub no_word : (ws : List (List ℕ × ℕ)) (text : List ℕ) → list_all is_late ws ≡ true → slice_index text 0 < 58
    → find (λ word. bytes_eq word.0 text) ws ≡ None
no_word [] text late early = refl
no_word (word ∷ ws) text late early =
    let parts = and_parts (is_late word) (list_all is_late ws) late in
    cond-false _ _ _ (other_word word.0 text parts.0 early) ∙ no_word ws text parts.1 early

-- Such a text is read as a number, where one can be in the place of a word.
pub word_or_number : (vocabulary : Words) (size : ℕ) (text : List ℕ) → are_numbers vocabulary ≡ true
    → list_all is_late (words vocabulary) ≡ true → slice_index text 0 < 58
    → word_bytes vocabulary size text ≡ number_bytes size text
unfolding bytes_in
word_or_number vocabulary size text numbers late early =
    ap (λ found. or_number (are_numbers vocabulary) size text (option_map (λ word. word.1) found))
    (no_word (words vocabulary) text late early)
    ∙ ap (λ is. or_number is size text None) numbers

-- Hex numbers and decimal ones begin with a digit.
pub hex_early : (n : ℕ) → slice_index (hex n) 0 < 58
hex_early n = omega arith

first_early : (ds : List ℕ) → AllDigits 10 ds → slice_index ds 0 < 58
first_early [] each = omega arith
first_early (c ∷ ds) each = omega (arith, digit_from_value c each.0)

pub decimal_early : (n : ℕ) → n < 2 ^ 64 → slice_index (decimal n) 0 < 58
decimal_early n small = first_early (decimal n) (decimal_is_IsNumeral n small).0.1

-- A number of a protocol, and one of a serial port.
pub protocol_read : (n : ℕ) → n < 2 ^ 16 → word_bytes Protocol 2 (hex n) ≡ Some (low_first 2 n)
protocol_read n small = word_or_number Protocol 2 (hex n) refl refl (hex_early n) ∙ hex_read 2 n (omega arith) small

pub default_read : (size n : ℕ) → size ≤ 8 → n < 2 ^ (8 * size)
    → word_bytes Default size (decimal n) ≡ Some (low_first size n)
default_read size n short fits =
    word_or_number Default size (decimal n) refl refl (decimal_early n (number_below size n short fits))
    ∙ decimal_read size n short fits

-- Words compute.
pub tcp_read : word_bytes Protocol 2 (codes "TCP") ≡ Some (low_first 2 6)
unfolding bytes_in
tcp_read = refl

-- The number of a drive bay.
pub drive_bay_read : (n : ℕ) → n < 256 → bytes_in DriveBay (hex (n + 1)) ≡ Some (low_first 2 (2 + n * 256))
unfolding bytes_in
drive_bay_read n small =
    let info : bay_info (n + 1) ≡ 2 + n * 256 =
    cond-false (n + 1 == 0) _ _ (ne_eqb (n + 1) 0 (λ is. omega (arith, is))) ∙ omega arith in
    ap (λ o. option_map (λ bay. low_first 2 (bay_info bay)) (below 257 o)) (number_in_own_hex (n + 1) (omega arith))
    ∙ ap (λ test. option_map (λ bay. low_first 2 (bay_info bay)) (given test (n + 1))) (lt-ltb (n + 1) 257 (omega arith))
    ∙ ap (λ i. Some (low_first 2 i)) info
