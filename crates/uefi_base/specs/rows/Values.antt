-- Worked rows: examples of the definitions.
use Rattle.std.specs.Prelude.{ℕ, ◌≡◌, ◌+◌, ◌<◌, ◌^◌, [], ◌∷◌, ◌++◌, codes, replicate}
use Rattle.uefi_base.specs.declared.status.Status.TheVariants.{BUFFER_TOO_SMALL}
use Rattle.uefi_base.specs.declared.text_error.FromSliceWithNulError.TheVariants.{TooLong, InvalidChar, InteriorNul, NotNulTerminated}
use Rattle.uefi_base.specs.Ucs2.{IsUcs2Text, characters_of, MakeUcs2Text}
use Rattle.uefi_base.specs.Unaligned.{units_of, unit_bytes}
use Rattle.uefi_base.specs.Faults.{HasFault, AreTooMany, OffendsFirst}
use Rattle.uefi_base.specs.LittleEndian.{u16_at, u32_at, u64_at}
use Rattle.uefi_base.specs.GuidText.{guid_text}
use Rattle.uefi_base.specs.StatusCode.{status_code}

-- The text `ab`, and text without characters.
pub record TextRows : Type 0 where
  pub two_characters : IsUcs2Text (0x61 ∷ 0x62 ∷ 0 ∷ [])
  pub without_nul : characters_of (0x61 ∷ 0x62 ∷ 0 ∷ []) ≡ 0x61 ∷ 0x62 ∷ []
  pub no_character : IsUcs2Text (0 ∷ [])

-- The error that units have.
pub record FaultRows : Type 0 where
  pub no_nul : HasFault (0x61 ∷ []) NotNulTerminated
  pub empty : HasFault [] NotNulTerminated
  pub interior_nul : HasFault (0x61 ∷ 0 ∷ 0x62 ∷ 0 ∷ []) (InteriorNul 1)
  pub nul_before_surrogate : HasFault (0 ∷ 0xd800 ∷ 0 ∷ []) (InteriorNul 0)
  pub surrogate : HasFault (0xd800 ∷ 0 ∷ []) (InvalidChar 0)
  pub surrogate_without_nul : HasFault (0x61 ∷ 0xd800 ∷ []) (InvalidChar 1)
  pub too_many_surrogates : (n : ℕ) → 2 ^ 31 < n → HasFault (replicate n 0xd800) TooLong

-- Exactly 2^31 units can be text, and one more can't; so 2^31 - 1 characters make text, and one more don't.
pub record LimitRows : Type 0 where
  pub longest_text : (n : ℕ) → n + 1 ≡ 2 ^ 31 → IsUcs2Text (replicate n 0x61 ++ 0 ∷ [])
  pub one_unit_more : (n : ℕ) → n ≡ 2 ^ 31 → HasFault (replicate n 0x61 ++ 0 ∷ []) TooLong
  pub most_characters : (n : ℕ) → n + 1 ≡ 2 ^ 31 → MakeUcs2Text (replicate n 0x61)
  pub one_character_more : (n : ℕ) → n ≡ 2 ^ 31 → AreTooMany (replicate n 0x61)

-- Errors that units don't have: the lowest offending index decides; the missing NUL counts only if no index
-- offends; no index counts if there are too many units.
pub record OrderRows : Type 0 where
  pub surrogate_after_nul : HasFault (0 ∷ 0xd800 ∷ 0 ∷ []) (InvalidChar 1) → ⊥
  pub nul_after_surrogate : HasFault (0xd800 ∷ 0 ∷ 0x61 ∷ 0 ∷ []) (InteriorNul 1) → ⊥
  pub second_surrogate : HasFault (0xd800 ∷ 0xdfff ∷ 0 ∷ []) (InvalidChar 1) → ⊥
  pub ending_after_surrogate : HasFault (0x61 ∷ 0xd800 ∷ []) NotNulTerminated → ⊥
  pub surrogate_of_too_many : (n : ℕ) → 2 ^ 31 < n → HasFault (replicate n 0xd800) (InvalidChar 0) → ⊥

-- The error of U+1F600, of `a` and U+0000, and of U+1F600 and U+0000.
pub record CharacterRows : Type 0 where
  pub above : OffendsFirst (0x1f600 ∷ []) (λ character. 0xffff < character)
  pub nul : OffendsFirst (0x61 ∷ 0 ∷ []) (λ character. character ≡ 0)
  pub nul_after_above : OffendsFirst (0x1f600 ∷ 0 ∷ []) (λ character. character ≡ 0) → ⊥
  pub empty : MakeUcs2Text []

-- Units and numbers in bytes.
pub record ByteRows : Type 0 where
  pub units : units_of (0x61 ∷ 0 ∷ 0 ∷ 0xd8 ∷ []) ≡ 0x61 ∷ 0xd800 ∷ []
  pub odd_byte : units_of (0x61 ∷ 0 ∷ 0x62 ∷ []) ≡ 0x61 ∷ []
  pub bytes : unit_bytes (0x61 ∷ 0xd800 ∷ []) ≡ 0x61 ∷ 0 ∷ 0 ∷ 0xd8 ∷ []
  pub u16 : u16_at (1 ∷ 2 ∷ 3 ∷ []) 1 ≡ 0x0302
  pub u32 : u32_at (1 ∷ 2 ∷ 3 ∷ 4 ∷ 5 ∷ []) 1 ≡ 0x05040302
  pub u64 : u64_at (1 ∷ 2 ∷ 3 ∷ 4 ∷ 5 ∷ 6 ∷ 7 ∷ 8 ∷ 9 ∷ []) 1 ≡ 0x0908070605040302

-- The text of a GUID, and the code of a status.
pub record NameRows : Type 0 where
  pub guid :
      guid_text (0x92 ∷ 0x6e ∷ 0x57 ∷ 0x09 ∷ 0x3f ∷ 0x6d ∷ 0xd2 ∷ 0x11 ∷ 0x8e ∷ 0x39 ∷ 0x00 ∷ 0xa0 ∷ 0xc9 ∷ 0x69 ∷ 0x72 ∷ 0x3b ∷ [])
      ≡ codes "09576e92-6d3f-11d2-8e39-00a0c969723b"
  pub status : status_code BUFFER_TOO_SMALL ≡ 0x8000000000000005

-- All rows hold.
abbrev pub RowsHold : Type 0
RowsHold = TextRows × FaultRows × LimitRows × OrderRows × CharacterRows × ByteRows × NameRows
