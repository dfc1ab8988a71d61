-- Units in bytes that are UCS-2 text, and their characters in UTF-8.
use Rattle.std.proofs.Common.{◌≡◌, ◌≢◌, ℕ, ◌+◌, ◌-◌, ◌*◌, ◌/◌, ◌%◌, ◌<◌, ◌≤◌, List, ◌++◌, length, get_or, take, refl}
use Rattle.std.proofs.Common.{sym, ap, subst, ◌∙◌, arith, length-append, ⊎_elim}
use Rattle.std.specs.Prelude.{encode_utf8_all}
use Rattle.std.specs.Char.{encode_utf8}
use Rattle.std.proofs.lemmas.Bool.{cases_lt}
use Rattle.uefi_base.specs.Buffer.{put_at, put_prefix}
use Rattle.uefi_base.specs.LittleEndian.{u16_at}
use Rattle.uefi_base.specs.Ucs2.{AreCharactersBefore, IsCharacter, max_units}
use Rattle.uefi_base.specs.Unaligned.{units_of}
use Rattle.uefi_base.proofs.Characters.{encodes_more}
use Rattle.uefi_base.proofs.UnitsOfBytes.{half_as_many_units, unit_at}
use Rattle.uefi_records.specs.file.FileSystemInfo.{volume_label_size}
use Rattle.uefi_c.specs.Ucs2.{IsUcs2, utf8_of}
use Rattle.uefi_c.specs.private.Ucs2.{HasNul}
use Rattle.uefi_c.proofs.Utf8Puts.{HasText, fewer_characters, more_text, same_length}

-- How many bytes text has.
pub record IsSized (bytes : List ℕ) : Type 0 where
  pub even : length bytes % 2 ≡ 0
  pub some : 0 < length bytes / 2
  pub few : length bytes / 2 ≤ max_units

pub is_sized : (bytes : List ℕ) → IsUcs2 bytes → IsSized bytes
is_sized bytes is = record {
  even = is.even;
  some = omega (arith, half_as_many_units bytes, is.text.not_empty);
  few = omega (arith, half_as_many_units bytes, is.text.short);
}

-- The record of a label alone has the size of the label.
pub label_size : (bytes : List ℕ) → IsUcs2 bytes → volume_label_size (length (units_of bytes)) ≡ length bytes
label_size bytes is = omega (arith, half_as_many_units bytes, is.even)

-- The last unit of text is zero.
pub is_nul : (bytes : List ℕ) → IsUcs2 bytes → u16_at bytes (2 * (length bytes / 2 - 1)) ≡ 0
is_nul bytes is =
    let half = half_as_many_units bytes in
    sym (unit_at bytes (length bytes / 2 - 1) (omega (arith, half, is.text.not_empty)))
    ∙ ap (λ (n : ℕ). get_or (units_of bytes) (n - 1) 0) (sym half) ∙ is.text.nul

pub has_nul : (bytes : List ℕ) → length bytes % 2 ≡ 0 → length bytes / 2 ≢ 0 → length bytes / 2 ≤ max_units
    → u16_at bytes (2 * (length bytes / 2 - 1)) ≡ 0 → HasNul bytes (length bytes / 2 - 1)
has_nul bytes even some few nul = record {
  sized = omega (arith, even, some);
  short = omega (arith, some, few);
  nul = unit_at bytes (length bytes / 2 - 1) (omega (arith, half_as_many_units bytes, some)) ∙ nul;
}

-- The first units are characters, of which this is the length in UTF-8.
pub record HasCounted (bytes : List ℕ) (index count : ℕ) : Type 0 where
  pub characters : AreCharactersBefore (units_of bytes) index
  pub sized : count ≡ length (encode_utf8_all (take index (units_of bytes)))
  pub few : count ≤ 4 * index

pub none_counted : (bytes : List ℕ) → HasCounted bytes 0 0
none_counted bytes = record { characters = λ k before. absurd (omega (arith, before)); sized = refl; few = omega arith }

module _ (bytes : List ℕ) (index : ℕ) (within : index < length (units_of bytes)) where
  units : List ℕ
  units = units_of bytes

  here : get_or (units_of bytes) index 0 ≡ u16_at bytes (2 * index)
  here = unit_at bytes index within

  -- The text of one unit more.
  pub text_of_more : (c : ℕ) → c ≡ u16_at bytes (2 * index)
      → encode_utf8_all (take (index + 1) (units_of bytes))
      ≡ encode_utf8_all (take index (units_of bytes)) ++ encode_utf8 c
  text_of_more c is = encodes_more (units_of bytes) index within
      ∙ ap (λ u. encode_utf8_all (take index (units_of bytes)) ++ encode_utf8 u) (here ∙ sym is)

  pub one_counted : (count c more : ℕ) → HasCounted bytes index count
      → IsCharacter (u16_at bytes (2 * index)) × (c ≡ u16_at bytes (2 * index)) → more ≡ length (encode_utf8 c)
      → more ≤ 4 → HasCounted bytes (index + 1) (count + more)
  one_counted count c more before is sized few = record {
    characters = λ k below.
        ⊎_elim (λ lower. before.characters k lower)
        (λ same. subst (λ j. IsCharacter (get_or (units_of bytes) j 0)) (omega (arith, same, below))
        (subst IsCharacter (sym here) is.0)) (cases_lt k index);
    sized = omega (
      arith,
      before.sized,
      sized,
      ap length (text_of_more c is.1),
      length-append (encode_utf8_all (take index (units_of bytes))) (encode_utf8 c),
    );
    few = omega (arith, before.few, few);
  }

  -- A unit that isn't a character is in no text.
  pub not_character : (count : ℕ) → HasNul bytes count → index < count → ¬ IsCharacter (u16_at bytes (2 * index))
      → ¬ IsUcs2 bytes
  not_character count nul below bad = λ is.
      bad (subst IsCharacter here
      (is.text.characters index (omega (arith, below, half_as_many_units bytes, nul.sized))))

-- All units before the NUL were counted.
pub all_counted : (bytes : List ℕ) (count n : ℕ) → HasNul bytes count → HasCounted bytes count n
    → IsUcs2 bytes × (n ≡ length (utf8_of bytes))
all_counted bytes count n nul counted =
    let long : length (units_of bytes) ≡ count + 1 = omega (arith, half_as_many_units bytes, nul.sized) in
    let last : count ≡ length (units_of bytes) - 1 = omega (arith, long) in (
      record {
        even = omega (arith, nul.sized);
        text = record {
          short = omega (arith, long, nul.short);
          not_empty = omega (arith, long);
          nul = ap (λ (n : ℕ). get_or (units_of bytes) n 0) (sym last) ∙ nul.nul;
          characters = subst (AreCharactersBefore (units_of bytes)) last counted.characters;
        };
      },
      counted.sized ∙ ap (λ (n : ℕ). length (encode_utf8_all (take n (units_of bytes)))) last,
    )

-- The first characters of text are in a buffer.
abbrev pub HasFirst : List ℕ → List ℕ → List ℕ → ℕ → ℕ → Type 0
HasFirst bytes old now index offset = HasText (encode_utf8_all (take index (units_of bytes))) old now offset

module _ (bytes old now : List ℕ) (index offset c : ℕ) (is : IsUcs2 bytes) (below : index < length bytes / 2 - 1)
    (room : length (utf8_of bytes) ≤ length old) (has : HasFirst bytes old now index offset)
    (same : c ≡ u16_at bytes (2 * index)) where
  inside : index < length (units_of bytes)
  inside = omega (arith, below, half_as_many_units bytes)

  fits : length (encode_utf8_all (take index (units_of bytes)) ++ encode_utf8 c) ≤ length old
  fits = omega (
    arith,
    room,
    ap length (text_of_more bytes index inside c same),
    fewer_characters (units_of bytes) (index + 1) (length (units_of bytes) - 1)
        (omega (arith, below, half_as_many_units bytes)),
  )

  pub room_for_character : offset + length (encode_utf8 c) ≤ length now
  room_for_character = omega (
    arith,
    fits,
    has.sized,
    same_length (encode_utf8_all (take index (units_of bytes))) old now offset has,
    length-append (encode_utf8_all (take index (units_of bytes))) (encode_utf8 c),
  )

  pub character_put : (next : List ℕ) → next ≡ put_at offset (encode_utf8 c) now
      → HasFirst bytes old next (index + 1) (offset + length (encode_utf8 c))
  character_put next put = subst (λ text. HasText text old next (offset + length (encode_utf8 c)))
      (sym (text_of_more bytes index inside c same))
      (more_text (encode_utf8_all (take index (units_of bytes))) old now next offset c has fits put)

-- Each unit before the NUL is a character.
pub is_character : (bytes : List ℕ) (index : ℕ) → IsUcs2 bytes → index < length bytes / 2 - 1
    → IsCharacter (u16_at bytes (2 * index))
is_character bytes index is below = subst IsCharacter
    (unit_at bytes index (omega (arith, below, half_as_many_units bytes)))
    (is.text.characters index (omega (arith, below, half_as_many_units bytes)))

pub all_put : (bytes old now : List ℕ) (index offset : ℕ) → index ≡ length bytes / 2 - 1
    → HasFirst bytes old now index offset → now ≡ put_prefix (utf8_of bytes) old
all_put bytes old now index offset end has =
    has.put ∙ ap (λ (n : ℕ). put_prefix (encode_utf8_all (take n (units_of bytes))) old)
    (omega (arith, end, half_as_many_units bytes))
