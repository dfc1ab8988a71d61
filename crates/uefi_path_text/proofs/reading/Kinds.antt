-- The text of a value is read as the value, for each kind of arguments.
use Rattle.std.proofs.Common.{take, drop, replicate, slice_index, length-take, take-append-drop, ◌≡◌, ◌==◌, ◌||◌, ℕ, ◌+◌, ◌*◌, ◌/◌, ◌%◌, ◌^◌, ◌<◌, ◌≤◌, List, [], ◌∷◌, ◌++◌, Bool, true, false, not, length, refl, arith, sym, ap, ◌∙◌, subst, Option, Some, None, codes, eqb-true, ltb-true, leb-true, inl, inr}
use Rattle.std.specs.Fmt.{decimal}
use Rattle.std.proofs.lemmas.Grind.{common_steps}
use Rattle.std.proofs.lemmas.Slice.Eq.{bytes_eq-Decides}
use Rattle.uefi_path_text.specs.text.EisaId.{eisa_id}
use Rattle.uefi_path_text.specs.text.SerialNumber.{is_serial_number}
use Rattle.uefi_path_text.specs.parse.Values.{character_units, bytes_in, number_in, or_number, low_first, size_bytes}
use Rattle.std.proofs.lemmas.Bool.{and_from, cases_Bool, and_parts, cond-true, cond-false}
use Rattle.uefi_base.specs.LittleEndian.{AreBytes}
use Rattle.uefi_path_text.specs.text.Arguments.{is_argument, hex, hex_bytes, ipv4_address}
use Rattle.uefi_path_text.specs.form.Words.{words, are_numbers}
use Rattle.uefi_path_text.specs.write.Values.{low_number, number_text, value_text, can_show, word_for, found_text, is_found, writes_numbers, number_base, bay_text, are_characters, unit_characters}
use Rattle.uefi_path_text.specs.declared.form.size.Size.{Size}
use Rattle.uefi_path_text.specs.declared.form.size.Size.TheVariants.{One, Two, Four, Eight}
use Rattle.uefi_path_text.specs.declared.form.words.Words.{Words}
use Rattle.uefi_path_text.specs.declared.form.argument.Base.{Base}
use Rattle.uefi_path_text.specs.declared.form.argument.Base.TheVariants.{Hex}
use Rattle.uefi_path_text.specs.declared.form.argument.Argument.{Argument}
use Rattle.uefi_path_text.specs.declared.form.argument.Argument.TheVariants.{Number, BigEndian, Word, Digits, Bytes, HardwareAddress, Ipv4, Ipv4Server, Ipv6, EisaId, PnpId, EisaLetters, DriveBay, Text, Name, Quoted}
use Rattle.uefi_path_text.proofs.reading.ArgumentTexts.{hex_argument, hex_bytes_argument, long_hex_argument, ipv4_argument, eisa_argument, quoted_argument}
use Rattle.uefi_path_text.proofs.reading.ByteTexts.{bytes_read}
use Rattle.uefi_path_text.proofs.reading.Eisa.{eisa_read}
use Rattle.uefi_path_text.proofs.reading.Ipv4.{ipv4_read, ipv4_server_read}
use Rattle.uefi_path_text.proofs.reading.Ipv6.{ipv6_argument, ipv6_read}
use Rattle.uefi_path_text.proofs.reading.LongNumbers.{big_endian_read}
use Rattle.uefi_path_text.proofs.reading.LowNumbers.{low_back, low_fits, base_read, base_argument, base_early}
use Rattle.uefi_path_text.proofs.reading.Shapes.{digits_read, shape_argument}
use Rattle.uefi_path_text.proofs.reading.Texts.{text_read, quoted_read}
use Rattle.uefi_path_text.proofs.reading.Vocabularies.{found_passes, own_words, own_word, numbers_fit}
use Rattle.uefi_path_text.proofs.reading.WordNumbers.{word_or_number, drive_bay_read}

-- The text can be an argument, and is read as the value.
pub record ReadsAs (kind : Argument) (text value : List ℕ) : Type 0 where
  pub argument : is_argument text ≡ true
  pub read : bytes_in kind text ≡ Some value

pub size_some : (size : Size) → 0 < size_bytes size
size_some One = omega arith
size_some Two = omega arith
size_some Four = omega arith
size_some Eight = omega arith

pub size_small : (size : Size) → size_bytes size ≤ 8
size_small One = omega arith
size_small Two = omega arith
size_small Four = omega arith
size_small Eight = omega arith

number_kind : (size : Size) (base : Base) (v : List ℕ) → AreBytes v → length v ≡ size_bytes size
    → ReadsAs (Number size base) (number_text base v) v
unfolding bytes_in
number_kind size base v each long = record {
  argument = base_argument base v each (omega (arith, long, size_small size));
  read = base_read base (size_bytes size) v each long (size_some size) (size_small size);
}

-- A word, or a number in its place.
or_false : (a b : Bool) → (not a || b) ≡ true → a ≡ true → b ≡ true
or_false true b is a = is
or_false false b is a = cc

word_found : (vocabulary : Words) (size : Size) (v : List ℕ) (word : List ℕ × ℕ) → AreBytes v → length v ≡ size_bytes size
    → word_for vocabulary (low_number v) ≡ Some word → ReadsAs (Word vocabulary size) word.0 v
unfolding bytes_in
word_found vocabulary size v word each long is =
    let passes = found_passes (λ w. w.1 == low_number v) _ (words vocabulary) word is (own_words vocabulary) in
    let own = own_word vocabulary word passes.1 in
    record {
      argument = own.argument;
      read = ap (or_number (are_numbers vocabulary) (size_bytes size) word.0) own.number
          ∙ ap (λ n. Some (low_first (size_bytes size) n)) (eqb-true word.1 (low_number v) passes.0)
          ∙ ap Some (ap (λ k. low_first k (low_number v)) (sym long) ∙ low_back v each);
    }

word_number_kind : (vocabulary : Words) (size : Size) (base : Base) (v : List ℕ) → AreBytes v → length v ≡ size_bytes size
    → writes_numbers vocabulary ≡ true → ReadsAs (Word vocabulary size) (number_text base v) v
unfolding bytes_in
word_number_kind vocabulary size base v each long writes =
    let fits = and_parts _ _ (or_false (writes_numbers vocabulary) _ (numbers_fit vocabulary) writes) in
    let short : length v ≤ 8 = omega (arith, long, size_small size) in
    record {
      argument = base_argument base v each short;
      read = word_or_number vocabulary (size_bytes size) (number_text base v) fits.0 fits.1 (base_early base v each short)
          ∙ base_read base (size_bytes size) v each long (size_some size) (size_small size);
    }

only_left : (a : Bool) → (a || false) ≡ true → a ≡ true
only_left true is = refl
only_left false is = is

word_either : (vocabulary : Words) (size : Size) (v : List ℕ) (found : Option (List ℕ × ℕ)) → AreBytes v
    → length v ≡ size_bytes size → word_for vocabulary (low_number v) ≡ found
    → (writes_numbers vocabulary || is_found found) ≡ true
    → ReadsAs (Word vocabulary size) (found_text found (number_text (number_base vocabulary) v)) v
word_either vocabulary size v (Some word) each long is shown = word_found vocabulary size v word each long is
word_either vocabulary size v None each long is shown =
    word_number_kind vocabulary size (number_base vocabulary) v each long (only_left (writes_numbers vocabulary) shown)

-- What is known of a drive bay.
bay_zero : bytes_in DriveBay (codes "0") ≡ Some (low_first 2 1)
unfolding bytes_in number_in
bay_zero = refl

bay_kind : (n : ℕ) → n < 2 ^ 16 → (n == 1 || n % 0x100 == 2) ≡ true → ReadsAs DriveBay (bay_text n) (low_first 2 n)
bay_kind n small shown =
    elim (cases_Bool (n == 1)) [
      | inl one ↦ subst (λ text. ReadsAs DriveBay text (low_first 2 n)) (sym (cond-true (n == 1) _ _ one))
          (record { argument = refl; read = bay_zero ∙ ap (λ m. Some (low_first 2 m)) (sym (eqb-true n 1 one)) })
      | inr other ↦
          let two : n % 0x100 ≡ 2 = eqb-true _ 2 (sym (ap (λ b. b || n % 0x100 == 2) other) ∙ shown) in
          let is : 2 + n / 0x100 * 256 ≡ n = omega (arith, two) in
          subst (λ text. ReadsAs DriveBay text (low_first 2 n)) (sym (cond-false (n == 1) _ _ other))
          (record {
            argument = hex_argument (n / 0x100 + 1) (omega (arith, small));
            read = drive_bay_read (n / 0x100) (omega (arith, small)) ∙ ap (λ m. Some (low_first 2 m)) is;
          })
    ]

two_bytes : (v : List ℕ) → AreBytes v → length v ≡ 2 → low_first 2 (low_number v) ≡ v
two_bytes v each long = ap (λ k. low_first k (low_number v)) (sym long) ∙ low_back v each

-- Kinds that are read as others are.
hardware_is : (text : List ℕ) → bytes_in HardwareAddress text ≡ bytes_in (Bytes 32) text
unfolding bytes_in
hardware_is text = refl

letters_are : (text : List ℕ) → bytes_in EisaLetters text ≡ bytes_in (Number Two Hex) text
unfolding bytes_in
letters_are text = refl

pnp_is : (text : List ℕ) → bytes_in PnpId text ≡ bytes_in EisaId text
unfolding bytes_in
pnp_is text = refl

name_is : (most : ℕ) (text : List ℕ) → bytes_in (Name most) text ≡ bytes_in (Text most) text
unfolding bytes_in
name_is most text = refl

-- An address with zeros after it.
front_at : (v : List ℕ) (k : ℕ) → k < 4 → slice_index (take 4 v) k ≡ slice_index v k
front_at v k few = grind (arith, common_steps)

front_text : (v : List ℕ) → ipv4_address v ≡ ipv4_address (take 4 v)
unfolding ipv4_address
front_text v =
    let at : (k : ℕ) → k < 4 → slice_index v k ≡ slice_index (take 4 v) k = λ k few. sym (front_at v k few) in
    λ i. decimal (at 0 (omega arith) i) ++ (codes "." ++ (decimal (at 1 (omega arith) i) ++ (codes "." ++ (decimal (at 2 (omega arith) i)
    ++ (codes "." ++ decimal (at 3 (omega arith) i))))))

taken : (n : ℕ) (d : List ℕ) → AreBytes d → AreBytes (take n d)
taken n d each k = grind (arith, common_steps, each)

server_read : (v : List ℕ) → AreBytes v → length v ≡ 16 → drop 4 v ≡ replicate 12 0
    → bytes_in Ipv4Server (ipv4_address v) ≡ Some v
server_read v each long zeros =
    ap (bytes_in Ipv4Server) (front_text v)
    ∙ ipv4_server_read (take 4 v) (omega (arith, length-take 4 v, long)) (taken 4 v each)
    ∙ ap Some (ap (λ l. take 4 v ++ l) (sym zeros) ∙ take-append-drop 4 v)

-- The characters of units are those of a text in quotes.
serial_characters : (v : List ℕ) → are_characters v ≡ true → is_serial_number (unit_characters v) ≡ true
serial_characters [] are = refl
serial_characters (low ∷ []) are = refl
serial_characters (low ∷ high ∷ units) are =
    let parts = and_parts _ _ (and_parts _ _ are).1 in and_from _ _ parts.0 (serial_characters units parts.1)

units_again : (v : List ℕ) → are_characters v ≡ true → character_units (unit_characters v) ≡ v
units_again [] are = refl
units_again (low ∷ []) are = cc
units_again (low ∷ high ∷ units) are =
    let parts = and_parts _ _ are in
    let zero : 0 ≡ high = sym (eqb-true high 0 parts.0) in
    λ i. low ∷ zero i ∷ units_again units (and_parts _ _ parts.1).1 i

-- Each kind.
pub kind_reads : (kind : Argument) (v : List ℕ) → AreBytes v → can_show kind v ≡ true → ReadsAs kind (value_text kind v) v
kind_reads (Number size base) v each shown = number_kind size base v each (eqb-true _ _ shown)
kind_reads BigEndian v each shown =
    record { argument = long_hex_argument v each; read = big_endian_read v (eqb-true _ 8 shown) each }
kind_reads (Word vocabulary size) v each shown =
    let parts = and_parts _ _ shown in word_either vocabulary size v _ each (eqb-true _ _ parts.0) refl parts.1
kind_reads (Digits shape) v each shown =
    record { argument = shape_argument shape v each; read = digits_read shape v (eqb-true _ _ shown) each }
kind_reads (Bytes most) v each shown =
    record { argument = hex_bytes_argument v each; read = bytes_read most v (leb-true _ most shown) each }
kind_reads Ipv4 v each shown = record { argument = ipv4_argument v each; read = ipv4_read v (eqb-true _ 4 shown) each }
kind_reads HardwareAddress v each shown =
    record { argument = hex_bytes_argument v each; read = hardware_is (hex_bytes v) ∙ bytes_read 32 v (leb-true _ 32 shown) each }
kind_reads Ipv4Server v each shown =
    let parts = and_parts _ _ shown in
    record { argument = ipv4_argument v each; read = server_read v each (eqb-true _ 16 parts.0) ((bytes_eq-Decides _ _).0 parts.1) }
kind_reads Ipv6 v each shown = record { argument = ipv6_argument v each; read = ipv6_read v (eqb-true _ 16 shown) each }
kind_reads EisaId v each shown =
    let parts = and_parts _ _ shown in
    let long : length v ≡ 4 = eqb-true _ 4 parts.0 in
    record {
      argument = eisa_argument (low_number v);
      read = eisa_read (low_number v) (low_fits 4 v each long) (ltb-true _ 0x8000 parts.1)
          ∙ ap Some (ap (λ k. low_first k (low_number v)) (sym long) ∙ low_back v each);
    }
kind_reads PnpId v each shown =
    let parts = and_parts _ _ shown in
    let long : length v ≡ 4 = eqb-true _ 4 parts.0 in
    let letters : low_number v % 0x10000 ≡ 0x41d0 = eqb-true _ 0x41d0 parts.1 in
    record {
      argument = eisa_argument (low_number v);
      read = pnp_is (eisa_id (low_number v)) ∙ eisa_read (low_number v) (low_fits 4 v each long) (omega (arith, letters))
          ∙ ap Some (ap (λ k. low_first k (low_number v)) (sym long) ∙ low_back v each);
    }
kind_reads EisaLetters v each shown =
    let parts = and_parts _ _ shown in
    let reads = number_kind Two Hex v each (eqb-true _ 2 parts.0) in
    record { argument = reads.argument; read = letters_are (hex (low_number v)) ∙ reads.read }
kind_reads DriveBay v each shown =
    let parts = and_parts _ _ shown in
    let long : length v ≡ 2 = eqb-true _ 2 parts.0 in
    subst (ReadsAs DriveBay (bay_text (low_number v))) (two_bytes v each long)
    (bay_kind (low_number v) (low_fits 2 v each long) parts.1)
kind_reads (Text most) v each shown =
    let parts = and_parts _ _ shown in record { argument = parts.0; read = text_read most v parts.0 (leb-true _ most parts.1) }
kind_reads (Name most) v each shown =
    let parts = and_parts _ _ (and_parts _ _ shown).0 in
    record { argument = parts.0; read = name_is most v ∙ text_read most v parts.0 (leb-true _ most parts.1) }
kind_reads Quoted v each shown =
    let serial = serial_characters v shown in
    record {
      argument = quoted_argument (unit_characters v) serial;
      read = quoted_read (unit_characters v) serial ∙ ap Some (units_again v shown);
    }
