-- Texts and serial numbers are read as they were.
use Rattle.std.proofs.Common.{◌≡◌, ℕ, suc, ◌+◌, ◌-◌, ◌≤◌, ◌&&◌, List, [], ◌∷◌, ◌++◌, length, true, refl, arith, codes, slice_index, ap, ◌∙◌, take, drop, Some, eq-eqb, le-leb}
use Rattle.std.proofs.lemmas.Bool.{and_from}
use Rattle.std.proofs.lemmas.List.{length_push, take_at, get_or_push}
use Rattle.uefi_path_text.specs.text.Arguments.{is_argument}
use Rattle.uefi_path_text.specs.text.SerialNumber.{is_serial_number}
use Rattle.uefi_path_text.specs.parse.Parts.{given}
use Rattle.uefi_path_text.specs.parse.Values.{is_quoted, unquoted, character_units, bytes_in}
use Rattle.uefi_path_text.specs.declared.form.argument.Argument.TheVariants.{Text, Quoted}

pub text_read : (most : ℕ) (text : List ℕ) → is_argument text ≡ true → length text ≤ most
    → bytes_in (Text most) text ≡ Some text
unfolding bytes_in
text_read most text is short = ap (λ test. given test text) (and_from _ _ is (le-leb (length text) most short))

-- A serial number in quotes.
abbrev pub quoted : List ℕ → List ℕ
quoted serial = codes "\"" ++ (serial ++ codes "\"")

quoted_length : (serial : List ℕ) → length (quoted serial) ≡ length serial + 2
quoted_length serial = omega (arith, length_push serial 0x22)

unquoted_quoted : (serial : List ℕ) → unquoted (quoted serial) ≡ serial
unquoted_quoted serial =
    let count : length (quoted serial) - 1 ≡ suc (length serial) = omega (arith, quoted_length serial) in
    ap (λ n. drop 1 (take n (quoted serial))) count ∙ take_at serial (0x22 ∷ []) (length serial) refl

quoted_passes : (serial : List ℕ) → is_serial_number serial ≡ true → is_quoted (quoted serial) ≡ true
quoted_passes serial is =
    let count : length (quoted serial) - 1 ≡ suc (length serial) = omega (arith, quoted_length serial) in
    let last : slice_index (quoted serial) (length (quoted serial) - 1) ≡ 0x22 =
    ap (slice_index (quoted serial)) count ∙ get_or_push serial 0x22 0 (length serial) refl in
    let long : 2 ≤ length (quoted serial) = omega (arith, quoted_length serial) in
    let own : is_serial_number (unquoted (quoted serial)) ≡ true = ap is_serial_number (unquoted_quoted serial) ∙ is in
    λ i. le-leb 2 (length (quoted serial)) long i && true
    && eq-eqb (slice_index (quoted serial) (length (quoted serial) - 1)) 0x22 last i && own i

pub quoted_read : (serial : List ℕ) → is_serial_number serial ≡ true
    → bytes_in Quoted (codes "\"" ++ (serial ++ codes "\"")) ≡ Some (character_units serial)
unfolding bytes_in
quoted_read serial is =
    ap (λ test. given test (character_units (unquoted (quoted serial)))) (quoted_passes serial is)
    ∙ ap (λ s. Some (character_units s)) (unquoted_quoted serial)
