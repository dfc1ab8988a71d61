-- Printed characters are ASCII.
use Rattle.std.proofs.Common.{◌≡◌, ℕ, ◌<◌, List, [], ◌∷◌, Bool, false, true, arith, refl}
use Rattle.std.proofs.lemmas.Bool.{and_parts}
use Rattle.std.proofs.lemmas.Bool.Decides.{nat_tests}
use Rattle.std.proofs.lemmas.Str.{IsUtf8-from_ascii}
use Rattle.std.proofs.lemmas.Str.Ascii.{IsAscii-nil, IsAscii-cons}
use Rattle.std.specs.List.{list_all}
use Rattle.std.specs.Str.{IsAscii, IsUtf8}
use Rattle.uefi_audits.specs.content.Content.{is_printed}

small : (byte : ℕ) → is_printed byte ≡ true → byte < 128
small byte printed = grind (arith, nat_tests)

printed_ascii : (bytes : List ℕ) → list_all is_printed bytes ≡ true → IsAscii bytes
printed_ascii [] pass = IsAscii-nil
printed_ascii (byte ∷ bytes) pass =
    let parts = and_parts (is_printed byte) (list_all is_printed bytes) pass in
    IsAscii-cons byte bytes (small byte parts.0) (printed_ascii bytes parts.1)

not_true : (b : Bool) → (b ≡ true → ⊥) → b ≡ false
not_true true other = absurd (other refl)
not_true false other = refl

-- So bytes that are no text aren't all printed.
pub not_printed : (bytes : List ℕ) → (IsUtf8 bytes → ⊥) → list_all is_printed bytes ≡ false
not_printed bytes other =
    not_true (list_all is_printed bytes) (λ pass. other (IsUtf8-from_ascii bytes (printed_ascii bytes pass)))
