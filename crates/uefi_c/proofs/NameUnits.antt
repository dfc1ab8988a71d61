-- The name that a value spells: its length in UTF-8, and its bytes in a buffer.
use Rattle.std.proofs.Common.{◌≡◌, ℕ, ◌+◌, ◌*◌, ◌%◌, ◌^◌, ◌<◌, ◌≤◌, Bool, true, false, List, [], ◌∷◌, ◌++◌, length, refl}
use Rattle.std.proofs.Common.{sym, ap, subst, ◌∙◌, arith, append_assoc, length-append}
use Rattle.std.specs.Prelude.{Option, Some, None, IsSome, ◌&&◌, ◌==◌, if◌then◌else◌, encode_utf8_all, unwrap_or}
use Rattle.std.specs.Char.{encode_utf8}
use Rattle.std.specs.List.{list_all}
use Rattle.uefi_base.specs.Buffer.{put_at, put_prefix}
use Rattle.uefi_hii.specs.Hex.{hex}
use Rattle.uefi_hii.specs.Values.{is_name_unit, is_odd_byte_zero, name, units}
use Rattle.uefi_hii.proofs.HexEnds.{length-hex}
use Rattle.uefi_hii.proofs.Names.{HasNamed, is_even, named_all, named_bad, named_odd}
use Rattle.uefi_c.specs.Config.{name_of}
use Rattle.uefi_c.proofs.Utf8Puts.{HasText, more_text, same_length, no_text}

-- A value that spells a name has an even number of bytes, and the name is the text of all its units.
pub record SpellsName (value : List ℕ) : Type 0 where
  pub even : is_even (length value) ≡ true
  pub text : name value ≡ Some (encode_utf8_all (units (hex value)))

pub spells_name : (value : List ℕ) → IsSome (name value) → SpellsName value
spells_name value some =
    by_tests (is_even (length value)) (is_odd_byte_zero (hex value)) (list_all is_name_unit (units (hex value))) refl refl
    some
  where
    name_by : Bool → Bool → Bool → Option (List ℕ)
    name_by even odd each = if even && odd && each then Some (encode_utf8_all (units (hex value))) else None

    by_tests : (even odd each : Bool) → is_even (length value) ≡ even → name value ≡ name_by even odd each
        → IsSome (name_by even odd each) → SpellsName value
    by_tests true true true is text some = record { even = is; text = text }
    by_tests true true false is text some = absurd cc
    by_tests true false each is text some = absurd cc
    by_tests false odd each is text some = absurd cc

-- A name that is known.
pub is_name : (value text : List ℕ) (n : ℕ) → name value ≡ Some text → length text ≡ n
    → IsSome (name value) × (n ≡ length (name_of value))
is_name value text n is sized =
    (subst (λ o. IsSome o) (sym is) refl, sym sized ∙ ap (λ o. length (unwrap_or o [])) (sym is))

pub is_no_name : (value : List ℕ) → name value ≡ None → ¬ IsSome (name value)
is_no_name value none = λ some. let never : ◌≡◌ {A = Bool} false true = subst (λ o. IsSome o) none some in cc

-- Two bytes that are a unit of a name, and its character.
abbrev pub IsUnit : ℕ → ℕ → ℕ → ℕ → Type 0
IsUnit high low unit c = (unit ≡ high * 256 + low) × (is_name_unit unit ≡ true) × (c ≡ unit)

-- The text of one unit more.
more_named : (all left so_far : List ℕ) (high low unit c : ℕ) → HasNamed all (high ∷ low ∷ left) so_far
    → IsUnit high low unit c → HasNamed all left (so_far ++ encode_utf8 c)
more_named all left so_far high low unit c before is =
    let same : c ≡ high * 256 + low = is.2 ∙ is.0 in
    let good : is_name_unit (high * 256 + low) ≡ true = subst (λ u. is_name_unit u ≡ true) is.0 is.1 in
    subst (λ u. HasNamed all left (so_far ++ encode_utf8 u)) (sym same) (record {
      text = append_assoc so_far (encode_utf8 (high * 256 + low)) (encode_utf8_all (units left)) ∙ before.text;
      each = sym (ap (λ t. t && list_all is_name_unit (units left)) good) ∙ before.each;
      odd = before.odd;
    })

-- The length of the text of the units read so far, where these bytes are left.
pub record HasCounted (value left : List ℕ) (n : ℕ) : Type 0 where
  pub so_far : List ℕ
  pub named : HasNamed (hex value) left so_far
  pub sized : length so_far ≡ n
  pub few : n + 2 * length left ≤ 2 * length (hex value)

pub none_counted : (value : List ℕ) → HasCounted value (hex value) 0
none_counted value = record {
  so_far = [];
  named = record { text = refl; each = refl; odd = refl };
  sized = refl;
  few = omega arith;
}

module _ (value left : List ℕ) (n high low unit c more : ℕ) (before : HasCounted value (high ∷ low ∷ left) n)
    (is : IsUnit high low unit c) (sized : more ≡ length (encode_utf8 c)) (few : more ≤ 4) where
  pub one_counted : HasCounted value left (n + more)
  one_counted = record {
    so_far = before.so_far ++ encode_utf8 c;
    named = more_named (hex value) left before.so_far high low unit c before.named is;
    sized = omega (arith, length-append before.so_far (encode_utf8 c), before.sized, sized);
    few = omega (arith, before.few, few);
  }

  -- It is at most as long as the value.
  pub count_fits : length value % 2 ≡ 0 → length value < 2 ^ 64 → n + more < 2 ^ 64
  count_fits even short = omega (arith, before.few, few, length-hex value, even, short)

pub all_counted : (value : List ℕ) (n : ℕ) → is_even (length value) ≡ true → HasCounted value [] n
    → IsSome (name value) × (n ≡ length (name_of value))
all_counted value n even counted =
    is_name value counted.so_far n (named_all value counted.so_far even counted.named) counted.sized

-- The text of the units read so far is in a buffer, where these bytes are left.
pub record HasPut (value left old now : List ℕ) (offset : ℕ) : Type 0 where
  pub so_far : List ℕ
  pub named : HasNamed (hex value) left so_far
  pub put : HasText so_far old now offset

pub none_put : (value old : List ℕ) → HasPut value (hex value) old old 0
none_put value old =
    record { so_far = []; named = record { text = refl; each = refl; odd = refl }; put = no_text old }

module _ (value old : List ℕ) (some : IsSome (name value)) where
  spells : SpellsName value
  spells = spells_name value some

  name_is : name_of value ≡ encode_utf8_all (units (hex value))
  name_is = ap (λ o. unwrap_or o []) spells.text

  -- What is written is the name, if it is what the value spells.
  is_put : (now so_far : List ℕ) (offset : ℕ) → name value ≡ Some so_far → HasText so_far old now offset
      → now ≡ put_prefix (name_of value) old
  is_put now so_far offset is has = has.put ∙ ap (λ o. put_prefix (unwrap_or o []) old) (sym is)

  pub all_put : (now : List ℕ) (offset : ℕ) → HasPut value [] old now offset → now ≡ put_prefix (name_of value) old
  all_put now offset has = is_put now has.so_far offset (named_all value has.so_far spells.even has.named) has.put

  pub odd_put : (now : List ℕ) (offset byte : ℕ) → HasPut value (byte ∷ []) old now offset
      → now ≡ put_prefix (name_of value) old
  odd_put now offset byte has =
      by_test (byte == 0) (named_odd value has.so_far byte spells.even has.named)
    where
      by_test : (t : Bool) → name value ≡ (if t then Some has.so_far else None) → now ≡ put_prefix (name_of value) old
      by_test true is = is_put now has.so_far offset is has.put
      by_test false none = let never = is_no_name value none some in cc

  -- Each unit is one of a name.
  pub never_bad : (left now : List ℕ) (offset high low unit : ℕ) → HasPut value (high ∷ low ∷ left) old now offset
      → unit ≡ high * 256 + low → is_name_unit unit ≡ false → ⊥
  never_bad left now offset high low unit has is bad =
      is_no_name value (named_bad value left has.so_far high low has.named
      (subst (λ u. is_name_unit u ≡ false) is bad)) some

  module _ (left now : List ℕ) (offset high low unit c : ℕ) (room : length (name_of value) ≤ length old)
      (has : HasPut value (high ∷ low ∷ left) old now offset) (is : IsUnit high low unit c) where
    named : HasNamed (hex value) left (has.so_far ++ encode_utf8 c)
    named = more_named (hex value) left has.so_far high low unit c has.named is

    fits : length (has.so_far ++ encode_utf8 c) ≤ length old
    fits = omega (
      arith,
      room,
      ap length name_is,
      ap length named.text,
      length-append (has.so_far ++ encode_utf8 c) (encode_utf8_all (units left)),
    )

    pub room_for_character : offset + length (encode_utf8 c) ≤ length now
    room_for_character = omega (
      arith,
      fits,
      has.put.sized,
      same_length has.so_far old now offset has.put,
      length-append has.so_far (encode_utf8 c),
    )

    pub one_put : (next : List ℕ) → next ≡ put_at offset (encode_utf8 c) now
        → HasPut value left old next (offset + length (encode_utf8 c))
    one_put next put = record {
      so_far = has.so_far ++ encode_utf8 c;
      named = named;
      put = more_text has.so_far old now next offset c has.put fits put;
    }
