-- IPv4 addresses are read as the bytes that they were written of.
use Rattle.std.proofs.Common.{◌≡◌, ℕ, ◌<◌, ◌==◌, ◌&&◌, List, [], ◌∷◌, ◌++◌, length, true, refl, arith, codes, slice_index, ap, ◌∙◌, map, Some, replicate, ne_eqb, lt-ltb}
use Rattle.std.specs.List.{list_all}
use Rattle.std.specs.Fmt.{decimal}
use Rattle.std.specs.Str.Parse.{AllDigits, digits_value}
use Rattle.std.proofs.lemmas.Bool.{and_from, not_from_false}
use Rattle.std.proofs.lemmas.Fmt.{decimal_is_IsNumeral}
use Rattle.std.proofs.lemmas.Str.Parse.{digit_from_value}
use Rattle.uefi_path_text.specs.text.Arguments.{ipv4_address}
use Rattle.uefi_path_text.specs.parse.Parts.{given, cut_at}
use Rattle.uefi_path_text.specs.parse.Ipv4.{is_octet, is_ipv4, ipv4_bytes}
use Rattle.uefi_path_text.specs.parse.Values.{bytes_in}
use Rattle.uefi_path_text.specs.declared.form.argument.Argument.TheVariants.{Ipv4, Ipv4Server}
use Rattle.uefi_base.specs.LittleEndian.{AreBytes}
use Rattle.uefi_path_text.proofs.reading.ByteLists.{listed}
use Rattle.uefi_path_text.proofs.reading.Numerals.{numeral_passes}
use Rattle.uefi_path_text.proofs.reading.CutTexts.{is_without, cut_whole, cut_first}

-- Decimal digits have no dot.
digits_dots : (ds : List ℕ) → AllDigits 10 ds → is_without 0x2e ds ≡ true
digits_dots [] each = refl
digits_dots (c ∷ ds) each =
    and_from _ _ (not_from_false (c == 0x2e) (ne_eqb c 0x2e (λ is. omega (arith, is, digit_from_value c each.0))))
    (digits_dots ds each.1)

decimal_dots : (n : ℕ) → n < 256 → is_without 0x2e (decimal n) ≡ true
decimal_dots n small = digits_dots (decimal n) (decimal_is_IsNumeral n (omega arith)).0.1

-- A byte in decimal digits is an octet, with the byte as its value.
byte_value : (n : ℕ) → n < 256 → digits_value 10 (decimal n) ≡ n
byte_value n small = (decimal_is_IsNumeral n (omega arith)).1

byte_octet : (n : ℕ) → n < 256 → is_octet (decimal n) ≡ true
byte_octet n small =
    let is = decimal_is_IsNumeral n (omega arith) in
    and_from _ _ (numeral_passes 10 (decimal n) is.0) (lt-ltb (digits_value 10 (decimal n)) 256 (omega (arith, is.1, small)))

-- The address is cut into its four numbers.
abbrev parts : List ℕ → List (List ℕ)
parts bytes =
    let at = slice_index bytes in decimal (at 0) ∷ decimal (at 1) ∷ decimal (at 2) ∷ decimal (at 3) ∷ []

address_cut : (bytes : List ℕ) → AreBytes bytes → cut_at 0x2e (ipv4_address bytes) ≡ parts bytes
unfolding ipv4_address
address_cut bytes each =
    let at : ℕ → List ℕ = λ k. decimal (slice_index bytes k) in
    let none : (k : ℕ) → is_without 0x2e (at k) ≡ true = λ k. decimal_dots (slice_index bytes k) (each k) in
    let last : List ℕ = at 2 ++ (codes "." ++ at 3) in
    cut_first 0x2e (at 0) (at 1 ++ (codes "." ++ last)) (none 0)
    ∙ ap (λ l. at 0 ∷ l) (cut_first 0x2e (at 1) last (none 1)
    ∙ ap (λ l. at 1 ∷ l) (cut_first 0x2e (at 2) (at 3) (none 2)
    ∙ ap (λ l. at 2 ∷ l) (cut_whole 0x2e (at 3) (none 3))))

address_passes : (bytes : List ℕ) → AreBytes bytes → is_ipv4 (ipv4_address bytes) ≡ true
address_passes bytes each =
    let octet : (k : ℕ) → is_octet (decimal (slice_index bytes k)) ≡ true = λ k. byte_octet (slice_index bytes k) (each k) in
    ap (λ l. length l == 4 && list_all is_octet l) (address_cut bytes each)
    ∙ (λ i. octet 0 i && (octet 1 i && (octet 2 i && (octet 3 i && true))))

address_bytes : (bytes : List ℕ) → length bytes ≡ 4 → AreBytes bytes → ipv4_bytes (ipv4_address bytes) ≡ bytes
address_bytes bytes long each =
    let value : (k : ℕ) → digits_value 10 (decimal (slice_index bytes k)) ≡ slice_index bytes k =
    λ k. byte_value (slice_index bytes k) (each k) in
    ap (map (digits_value 10)) (address_cut bytes each) ∙ (λ i. value 0 i ∷ value 1 i ∷ value 2 i ∷ value 3 i ∷ [])
    ∙ listed 4 bytes long

-- An address, and the same in sixteen bytes.
pub ipv4_read : (bytes : List ℕ) → length bytes ≡ 4 → AreBytes bytes → bytes_in Ipv4 (ipv4_address bytes) ≡ Some bytes
unfolding bytes_in
ipv4_read bytes long each =
    ap (λ test. given test (ipv4_bytes (ipv4_address bytes))) (address_passes bytes each)
    ∙ ap Some (address_bytes bytes long each)

pub ipv4_server_read : (bytes : List ℕ) → length bytes ≡ 4 → AreBytes bytes
    → bytes_in Ipv4Server (ipv4_address bytes) ≡ Some (bytes ++ replicate 12 0)
unfolding bytes_in
ipv4_server_read bytes long each =
    ap (λ test. given test (ipv4_bytes (ipv4_address bytes) ++ replicate 12 0)) (address_passes bytes each)
    ∙ ap (λ l. Some (l ++ replicate 12 0)) (address_bytes bytes long each)
