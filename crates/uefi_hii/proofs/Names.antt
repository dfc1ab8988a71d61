-- A name read unit by unit.
use Rattle.std.proofs.Common.{◌≡◌, ◌≢◌, ℕ, ◌+◌, ◌*◌, ◌%◌, Bool, true, false, List, [], ◌∷◌, ◌++◌, length}
use Rattle.std.proofs.Common.{arith}
use Rattle.std.proofs.lemmas.Bool.{ne_eqb}
use Rattle.std.proofs.lemmas.List.{append-nil}
use Rattle.std.specs.Prelude.{Some, None, ◌==◌, if◌then◌else◌, encode_utf8_all}
use Rattle.std.specs.List.{list_all}
use Rattle.uefi_hii.specs.Hex.{hex}
use Rattle.uefi_hii.specs.Values.{is_name_unit, is_odd_byte_zero, name, units}

-- The test of a value's length.
abbrev pub is_even : ℕ → Bool
is_even n = n % 2 == 0

-- The text of the units read so far, where these bytes are left.
pub record HasNamed (all left so_far : List ℕ) : Type 0 where
  pub text : so_far ++ encode_utf8_all (units left) ≡ encode_utf8_all (units all)
  pub each : list_all is_name_unit (units left) ≡ list_all is_name_unit (units all)
  pub odd : is_odd_byte_zero left ≡ is_odd_byte_zero all

-- At the end of the bytes the text is the name.
pub named_all : (value text : List ℕ) → is_even (length value) ≡ true → HasNamed (hex value) [] text
    → name value ≡ Some text
named_all value text even named = cc (append-nil text)

-- At an odd last byte it is, if the byte is 0.
pub named_odd : (value text : List ℕ) (a : ℕ) → is_even (length value) ≡ true → HasNamed (hex value) (a ∷ []) text
    → name value ≡ (if a == 0 then Some text else None)
named_odd value text a even named = grind (arith, append-nil text)

-- There is no name where a unit is none of a name.
pub named_bad : (value left text : List ℕ) (a b : ℕ) → HasNamed (hex value) (a ∷ b ∷ left) text
    → is_name_unit (a * 256 + b) ≡ false → name value ≡ None
named_bad value left text a b named bad = grind arith

-- There is none of an odd number of characters.
pub named_never : (value : List ℕ) → length value % 2 ≢ 0 → name value ≡ None
named_never value odd = cc (ne_eqb (length value % 2) 0 odd)

-- What the reader asks for, step by step.
pub ruleset name_steps = (named_all, named_odd, named_bad, named_never)
