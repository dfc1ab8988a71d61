-- How many bytes the texts of arguments stand for.
use Rattle.std.proofs.Common.{◌≡◌, ◌∙◌, ◌+◌, ◌-◌, ◌*◌, ◌≤◌, ℕ, List, [], ◌++◌, length, take, drop, replicate, Bool, true, false, refl, arith, ap, Option, Some, None, length-append, eqb-true, leb-true}
use Rattle.std.specs.Prelude.{is_some}
use Rattle.std.specs.Option.{option_map, unwrap_or}
use Rattle.std.specs.Str.Parse.{digits_value}
use Rattle.std.proofs.lemmas.Bool.{and_parts}
use Rattle.std.proofs.lemmas.List.{length-map, length-replicate, length-take, length-drop}
use Rattle.uefi_path_text.specs.form.Pieces.{shape_size}
use Rattle.uefi_path_text.specs.parse.Parts.{given, cut_at}
use Rattle.uefi_path_text.specs.parse.Ipv4.{is_ipv4, ipv4_bytes}
use Rattle.uefi_path_text.specs.parse.Values.{bytes_in, or_number, offsets, is_quoted, unquoted, low_first, eisa_number, bay_info}
use Rattle.uefi_path_text.specs.parse.Ipv6.{ipv6_in, by_gap, gap_in, side_in, sixteen_bytes, around, with_gap}
use Rattle.uefi_path_text.specs.private.TextLengths.{length_of_text}
use Rattle.uefi_path_text.specs.declared.form.argument.Argument.{Argument}
use Rattle.uefi_path_text.specs.declared.form.argument.Argument.TheVariants.{Number, BigEndian, Word, Digits, Bytes, HardwareAddress, Ipv4, Ipv4Server, Ipv6, EisaId, PnpId, EisaLetters, DriveBay, Text, Name, Quoted}
use Rattle.uefi_path_text.specs.declared.form.shape.Shape.{Shape}
use Rattle.uefi_path_text.specs.declared.form.shape.Shape.TheVariants.{Guid, Eui64, Ieee1394, Address}
use Rattle.uefi_path_text.proofs.arguments.Lengths.{length-bytes_low_first, length-bytes_high_first, length-character_units, length-shape_bytes}
use Rattle.uefi_path_text.proofs.arguments.Pairs.{length-pairs_bytes}
use Rattle.uefi_path_text.proofs.arguments.Quotes.{quotes_from_test, unquoted_is}

-- A value, if there is one.
length_mapped : (f : ℕ → List ℕ) (n : ℕ) (o : Option ℕ) → ((x : ℕ) → length (f x) ≡ n)
    → is_some (option_map f o) ≡ true → length (unwrap_or (option_map f o) []) ≡ n
length_mapped f n None each some = cc
length_mapped f n (Some x) each some = each x

length_given : (b : Bool) (value : List ℕ) (n : ℕ) → (b ≡ true → length value ≡ n) → is_some (given b value) ≡ true
    → length (unwrap_or (given b value) []) ≡ n
length_given true value n is some = is refl
length_given false value n is some = cc

length_word : (is_number : Bool) (size : ℕ) (text : List ℕ) (found : Option ℕ)
    → is_some (or_number is_number size text found) ≡ true
    → length (unwrap_or (or_number is_number size text found) []) ≡ size
length_word is_number size text (Some number) some = length-bytes_low_first 0 size number
length_word true size text None some =
    length_mapped (low_first size) size _ (λ number. length-bytes_low_first 0 size number) some
length_word false size text None some = cc

length_shape : (shape : Shape) → length (offsets shape) ≡ shape_size shape
length_shape Guid = refl
length_shape Eui64 = refl
length_shape Ieee1394 = refl
length_shape Address = refl

length_ipv4 : (text : List ℕ) → is_ipv4 text ≡ true → length (ipv4_bytes text) ≡ 4
length_ipv4 text is =
    length-map (cut_at 0x2e text) (digits_value 10) ∙ eqb-true (length (cut_at 0x2e text)) 4 (and_parts _ _ is).0

length_server : (text : List ℕ) → is_ipv4 text ≡ true → length (ipv4_bytes text ++ replicate 12 0) ≡ 16
length_server text is = omega (arith, length-append (ipv4_bytes text) (replicate 12 0), length_ipv4 text is, length-replicate {A = ℕ})

length_sixteen : (side : Option (List ℕ)) → is_some (sixteen_bytes side) ≡ true
    → length (unwrap_or (sixteen_bytes side) []) ≡ 16
length_sixteen None some = cc
length_sixteen (Some bytes) some = length_given _ bytes 16 (eqb-true (length bytes) 16) some

length_with_gap : (front back : List ℕ) → length front + length back ≤ 14 → length (with_gap front back) ≡ 16
length_with_gap front back few =
    let zeros : ℕ = 16 - (length front + length back) in
    omega (arith, few, length-append front (replicate zeros 0 ++ back), length-append (replicate zeros 0) back, length-replicate {A = ℕ})

length_around : (front back : Option (List ℕ)) → is_some (around front back) ≡ true
    → length (unwrap_or (around front back) []) ≡ 16
length_around None back some = cc
length_around (Some front) None some = cc
length_around (Some front) (Some back) some =
    length_given _ (with_gap front back) 16 (λ few. length_with_gap front back (leb-true (length front + length back) 14 few)) some

length_by_gap : (text : List ℕ) (gap : Option ℕ) → is_some (by_gap text gap) ≡ true
    → length (unwrap_or (by_gap text gap) []) ≡ 16
length_by_gap text None some = length_sixteen (side_in true text) some
length_by_gap text (Some gap) some = length_around (side_in false (take gap text)) (side_in true (drop (gap + 2) text)) some

length_ipv6 : (text : List ℕ) → is_some (ipv6_in text) ≡ true → length (unwrap_or (ipv6_in text) []) ≡ 16
unfolding ipv6_in
length_ipv6 text some = length_by_gap text (gap_in text) some

length_unquoted : (text : List ℕ) → is_quoted text ≡ true → length (unquoted text) ≡ length text - 2
length_unquoted text is =
    let long = (quotes_from_test text is).long in
    ap length (unquoted_is text long) ∙ omega (arith, long, length-take (length text - 2) (drop 1 text), length-drop 1 text)

-- The bytes of a text of an argument.
pub length_in : (kind : Argument) (text : List ℕ) → is_some (bytes_in kind text) ≡ true
    → length (unwrap_or (bytes_in kind text) []) ≡ length_of_text kind text
unfolding bytes_in
length_in (Number size base) text some = length_mapped _ _ _ (λ number. length-bytes_low_first 0 _ number) some
length_in BigEndian text some = length_mapped _ 8 _ (λ number. length-bytes_high_first 8 number) some
length_in (Word vocabulary size) text some = length_word _ _ text _ some
length_in (Digits shape) text some = length_given _ _ _ (λ is. length-shape_bytes shape text ∙ length_shape shape) some
length_in (Bytes most) text some = length_given _ _ _ (λ is. length-pairs_bytes text) some
length_in HardwareAddress text some = length_given _ _ _ (λ is. length-pairs_bytes text) some
length_in Ipv4 text some = length_given _ _ _ (length_ipv4 text) some
length_in Ipv4Server text some = length_given _ _ _ (length_server text) some
length_in Ipv6 text some = length_ipv6 text some
length_in EisaId text some = length_given _ _ _ (λ is. length-bytes_low_first 0 4 (eisa_number text)) some
length_in PnpId text some = length_given _ _ _ (λ is. length-bytes_low_first 0 4 (eisa_number text)) some
length_in EisaLetters text some = length_mapped _ 2 _ (λ number. length-bytes_low_first 0 2 number) some
length_in DriveBay text some = length_mapped _ 2 _ (λ bay. length-bytes_low_first 0 2 (bay_info bay)) some
length_in (Text most) text some = length_given _ _ _ (λ is. refl) some
length_in (Name most) text some = length_given _ _ _ (λ is. refl) some
length_in Quoted text some =
    length_given _ _ _ (λ is. length-character_units (unquoted text) ∙ ap (λ n. 2 * n) (length_unquoted text is)) some
