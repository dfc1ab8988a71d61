-- The text of a GUID is ASCII, so it is UTF-8.
use Rattle.std.proofs.Common.{◌≡◌, ℕ, ◌<◌, ◌≤◌, List, arith, IsTrue, Bool, true, false, if◌then◌else◌, ◌==◌, ◌⊎◌, inl, inr}
use Rattle.std.proofs.lemmas.List.{get_or_past}
use Rattle.std.proofs.lemmas.Str.{IsUtf8-from_ascii}
use Rattle.std.specs.Prelude.{IsUtf8, slice_index}
use Rattle.std.specs.Char.{is_ascii_hexdigit}
use Rattle.uefi_base.specs.GuidText.{IsGuidText, is_separator}

ascii_of : (dash : Bool) (byte : ℕ) → IsTrue (if dash then byte == 0x2d else is_ascii_hexdigit byte) → byte < 128
ascii_of true byte fits = grind (arith, fits)
ascii_of false byte fits = grind (arith, fits)

ascii_at : (text : List ℕ) → IsGuidText text → (i : ℕ) → (i < 36) ⊎ (36 ≤ i) → slice_index text i < 128
ascii_at text is i (inl before) = ascii_of (is_separator i) (slice_index text i) (is.fits i before)
ascii_at text is i (inr past) =
    let none : slice_index text i ≡ 0 = get_or_past text i 0 (omega (arith, is.sized, past)) in
    omega (arith, none)

pub utf8_of_guid : (text : List ℕ) → IsGuidText text → IsUtf8 text
utf8_of_guid text is = IsUtf8-from_ascii text (λ i. ascii_at text is i (grind (arith)))
