-- The name of a file, as an argument states it.
use Rattle.std.specs.Prelude.{ℕ, ◌≡◌, ◌≢◌, ◌⊎◌, ◌++◌, ◌∷◌, [], IsUtf8, List}
use Rattle.shown.specs.Name.{shown_name_bytes}
use Rattle.uefi_audit.specs.declared.file_name.FileName.{FileName}
use Rattle.uefi_audit.specs.declared.file_name.FileName.TheVariants.{Text, NotUtf8}

-- The word of an argument: its text; of one that isn't UTF-8, how it is shown and a NUL, which no argument has.
abbrev pub IsWordOf : List ℕ → List ℕ → Type 0
IsWordOf bytes word = (IsUtf8 bytes × (word ≡ bytes)) ⊎ ((IsUtf8 bytes → ⊥) × (word ≡ shown_name_bytes bytes ++ 0 ∷ []))

-- The name that a word is.
abbrev pub IsNameOf : List ℕ → FileName → Type 0
IsNameOf word (Text text) = (word ≡ text.now) × ((shown : List ℕ) → word ≢ shown ++ 0 ∷ [])
IsNameOf word (NotUtf8 shown) = word ≡ shown.now ++ 0 ∷ []

-- Its text, or how it is shown.
abbrev pub text_of : FileName → List ℕ
text_of (Text text) = text.now
text_of (NotUtf8 shown) = shown.now
