-- A text without controls is as it is on its line.
use Rattle.std.proofs.Common.{◌≡◌, ◌∙◌, ◌++◌, ℕ, List, [], ◌∷◌, encode_utf8, refl, true≢false}
use Rattle.std.specs.Prelude.{◌||◌, Bool, true, false, IsUtf8, if◌then◌else◌}
use Rattle.std.specs.List.{flat_map, list_any}
use Rattle.std.specs.Str.{chars}
use Rattle.std.proofs.lemmas.Str.{encodes-chars}
use Rattle.audit_text.specs.json.Line.{escaped, line_character, unicode_escape}
use Rattle.shown.specs.Name.{is_control}

neither : (a b : Bool) → (a || b) ≡ false → (a ≡ false) × (b ≡ false)
neither false b none = (refl, none)
neither true b none = absurd (true≢false none)

one : (control : Bool) (character : ℕ) → control ≡ false
    → (if control then unicode_escape character else encode_utf8 character) ≡ encode_utf8 character
one false character none = refl
one true character none = absurd (true≢false none)

plain_characters : (characters : List ℕ) → list_any is_control characters ≡ false
    → flat_map line_character characters ≡ flat_map encode_utf8 characters
unfolding line_character
plain_characters [] none = refl
plain_characters (character ∷ more) none =
    let both = neither (is_control character) (list_any is_control more) none in
    (λ i. one (is_control character) character both.0 i ++ plain_characters more both.1 i)

pub plain : (text : List ℕ) → IsUtf8 text → list_any is_control (chars text) ≡ false → escaped text ≡ text
unfolding escaped
plain text utf8 none = plain_characters (chars text) none ∙ encodes-chars text utf8
