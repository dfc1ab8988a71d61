-- UCS-2 text (UEFI 2.10, 2.3.1 "Data Types", CHAR16) in bytes, two a unit, little-endian, and in UTF-8.
use Rattle.std.specs.Prelude.{ℕ, ◌≡◌, ◌%◌, List, [], ◌∷◌, ◌++◌, length, encode_utf8_all, IsUtf8}
use Rattle.std.specs.Str.{chars}
use Rattle.uefi_base.specs.Ucs2.{IsUcs2Text, MakeUcs2Text, characters_of}
use Rattle.uefi_base.specs.Unaligned.{units_of, unit_bytes}

-- The bytes are whole units, and all of these are text with its NUL.
pub record IsUcs2 (bytes : List ℕ) : Type 0 where
  pub even : length bytes % 2 ≡ 0
  pub text : IsUcs2Text (units_of bytes)

-- The characters of the text in the bytes, without the NUL, in UTF-8.
abbrev pub utf8_of : List ℕ → List ℕ
utf8_of bytes = encode_utf8_all (characters_of (units_of bytes))

-- The bytes are UTF-8 whose characters make text.
pub record MakesUcs2 (bytes : List ℕ) : Type 0 where
  pub utf8 : IsUtf8 bytes
  pub text : MakeUcs2Text (chars bytes)

-- The bytes of the text's units, the NUL too.
abbrev pub ucs2_of : List ℕ → List ℕ
ucs2_of bytes = unit_bytes (chars bytes ++ 0 ∷ [])
