-- PCRs as `tpm2_pcrread`, `tpm2_quote` and `tpm2_checkquote` of tpm2-tools 5.4 print them, and as Linux has them in files (Documentation/ABI/stable/sysfs-class-tpm); and where a text stops being that.
use Rattle.std.specs.Prelude.{ℕ, ◌≡◌, ◌≢◌, ◌+◌, ◌-◌, ◌*◌, ◌==◌, ◌&&◌, ◌||◌, nat_eq, nat_le, ◌⊎◌, ⊤, Bool, IsTrue, if◌then◌else◌}
use Rattle.std.specs.Prelude.{List, [], ◌∷◌, ◌++◌, length, codes, flat_map, Option, None, Some, Ok}
use Rattle.std.specs.List.{All, starts_with}
use Rattle.std.specs.Option.{option_map}
use Rattle.std.specs.Str.{IsUtf8}
use Rattle.hex.specs.Hex.{decode_of}
use Rattle.pcr_replay.specs.declared.bank.Bank.{Bank}
use Rattle.pcr_replay.specs.declared.bank.Bank.TheVariants.{Sha1}
use Rattle.pcr_replay.specs.Banks.{size_of}
use Rattle.pcr_replay.specs.Views.{value_of}
use Rattle.uefi_audits.specs.Naming.{bank_name}
use Rattle.uefi_audits.specs.declared.verify.held.HeldError.{HeldError}
use Rattle.uefi_audits.specs.declared.verify.held.HeldError.TheVariants.{Memory, Line}
use Rattle.uefi_audits.specs.declared.verify.held.HeldPcr.{HeldPcr}
use Rattle.uefi_audits.specs.declared.verify.held.Section.{Section}
use Rattle.uefi_audits.specs.declared.verify.held.Section.TheVariants.{Before, Replayed, Unsupported}

-- A digit 0 to 9.
abbrev pub is_digit : ℕ → Bool
is_digit character = nat_le 48 character && nat_le character 57

-- The number of two digits; and of two characters: one digit and a space, or two digits.
unfoldable pub two_digits : ℕ → ℕ → Option ℕ
two_digits tens ones = if is_digit tens && is_digit ones then Some (10 * (tens - 48) + (ones - 48)) else None

unfoldable pub number_in : ℕ → ℕ → Option ℕ
number_in first second = if is_digit first && (second == 32) then Some (first - 48) else two_digits first second

-- The line that a bank begins with: two spaces, its name and a colon.
abbrev pub IsNamedBy : List ℕ → List ℕ → Type 0
IsNamedBy line name = line ≡ codes "  " ++ name ++ codes ":"

abbrev pub IsBankLine : List ℕ → List ℕ → Type 0
IsBankLine line name = IsNamedBy line name × IsUtf8 name

-- The line of a PCR: four spaces, the number, `: 0x` and hex digits.
abbrev pub IsPcrLine : List ℕ → ℕ → List ℕ → Type 0
IsPcrLine line number digits =
    (first : ℕ) × (second : ℕ) × (line ≡ codes "    " ++ first ∷ second ∷ codes ": 0x" ++ digits) × (number_in first second ≡ Some number)

-- The hex digits in a text of bytes, each of them a space and two digits; a space may end it.
unfoldable pub unspaced : List ℕ → Option (List ℕ)
unspaced [] = Some []
unspaced (space ∷ []) = if space == 32 then Some [] else None
unspaced (space ∷ high ∷ []) = None
unspaced (space ∷ high ∷ low ∷ rest) = if space == 32 then option_map (λ digits. high ∷ low ∷ digits) (unspaced rest) else None

-- The line of a PCR of TPM 1.2: `PCR-`, two digits, a colon and its bytes.
abbrev pub IsTpm1Line : List ℕ → ℕ → List ℕ → Type 0
IsTpm1Line line number digits =
    (tens : ℕ) × (ones : ℕ) × (spaced : List ℕ) × (line ≡ codes "PCR-" ++ tens ∷ ones ∷ 58 ∷ spaced)
    × (two_digits tens ones ≡ Some number) × (unspaced spaced ≡ Some digits)

-- The hex digits, in either case, state the value of a PCR of the bank: one of the bank's length.
pub record IsValueIn (bank : Bank) (digits value : List ℕ) : Type 0 where
  pub decoded : decode_of digits ≡ Ok value
  pub size : length value ≡ size_of bank

-- The line states the PCR: one of the bank that began before it, or one of TPM 1.2, whose bank is SHA-1.
abbrev pub StatesPcr : Section → List ℕ → HeldPcr → Type 0
StatesPcr section line held =
    (digits : List ℕ) × IsValueIn held.bank digits (value_of held.value)
    × (((section ≡ Replayed held.bank) × IsPcrLine line held.pcr digits) ⊎ ((held.bank ≡ Sha1) × IsTpm1Line line held.pcr digits))

-- What lines state: PCRs, the names of banks that can't be replayed, and which bank began last.
pub record Stated : Type 0 where
  pub pcrs : List HeldPcr
  pub unsupported : List (List ℕ)
  pub section : Section

abbrev pub nothing_stated : Stated
nothing_stated = record { pcrs = []; unsupported = []; section = Before }

-- A bank of this name begins: one that can be replayed, or another, whose name is noted.
abbrev pub NamesBank : Stated → List ℕ → Stated → Type 0
NamesBank before name after =
    ((bank : Bank) × (name ≡ bank_name bank) × (after ≡ record before { section = Replayed bank }))
    ⊎ (((bank : Bank) → name ≢ bank_name bank)
    × (after ≡ record before { section = Unsupported; unsupported = before.unsupported ++ name ∷ [] }))

-- A line begins a bank.
abbrev pub BeginsBank : Stated → List ℕ → Stated → Type 0
BeginsBank before line after = (name : List ℕ) × IsBankLine line name × NamesBank before name after

-- It states a PCR that no line before it states.
abbrev pub IsNew : HeldPcr → List HeldPcr → Type 0
IsNew held others = All (λ other. other.bank ≡ held.bank → other.pcr ≢ held.pcr) others

abbrev pub StatesNew : Stated → List ℕ → Stated → Type 0
StatesNew before line after =
    (held : HeldPcr) × StatesPcr before.section line held × IsNew held before.pcrs
    × (after ≡ record before { pcrs = before.pcrs ++ held ∷ [] })

-- It is of a PCR in another bank.
abbrev pub IsOfOther : Section → List ℕ → Type 0
IsOfOther section line = (section ≡ Unsupported) × ((number : ℕ) × (digits : List ℕ) × IsPcrLine line number digits)

-- It is a line that a quote has beside those of banks and PCRs: it begins with one of these.
unfoldable pub is_labelled : List ℕ → Bool
is_labelled line =
    starts_with nat_eq line (codes "quoted: ") || starts_with nat_eq line (codes "signature:")
    || starts_with nat_eq line (codes "  alg: ") || starts_with nat_eq line (codes "  sig: ")
    || starts_with nat_eq line (codes "pcrs:") || starts_with nat_eq line (codes "calcDigest: ")
    || starts_with nat_eq line (codes "sig: ")

abbrev pub IsOfQuote : List ℕ → Type 0
IsOfQuote line = IsTrue (is_labelled line) × ((name : List ℕ) → IsBankLine line name → ⊥)

-- Both are passed over.
abbrev pub IsPassedOver : Stated → List ℕ → Stated → Type 0
IsPassedOver before line after = (IsOfOther before.section line ⊎ IsOfQuote line) × (after ≡ before)

-- What a line adds to what those before it state.
abbrev pub Adds : Stated → List ℕ → Stated → Type 0
Adds before line after =
    BeginsBank before line after ⊎ StatesNew before line after ⊎ IsPassedOver before line after

-- Bytes of which none has this value.
abbrev pub Lacks : ℕ → List ℕ → Type 0
Lacks value bytes = All (λ byte. byte ≢ value) bytes

-- Bytes without the `\r` at their end, if they have one.
abbrev pub IsWithoutReturn : List ℕ → List ℕ → Type 0
IsWithoutReturn bytes line =
    (bytes ≡ line ++ codes "\r") ⊎ ((bytes ≡ line) × ((front : List ℕ) → bytes ≢ front ++ codes "\r"))

-- What the bytes of a line add.
pub record IsRead (before : Stated) (bytes : List ℕ) (after : Stated) : Type 0 where
  pub no_break : Lacks 10 bytes
  pub line : List ℕ
  pub without_return : IsWithoutReturn bytes line
  pub adds : Adds before line after

-- What lines in order do.
abbrev pub AreRead : Stated → List (List ℕ) → Stated → Type 0
AreRead before [] after = after ≡ before
AreRead before (line ∷ lines) after = (next : Stated) × IsRead before line next × AreRead next lines after

-- The text begins with lines that state this; the rest follows.
pub record BeginsWith (text : List ℕ) (stated : Stated) (rest : List ℕ) : Type 0 where
  pub lines : List (List ℕ)
  pub are_read : AreRead nothing_stated lines stated
  pub parts : text ≡ flat_map (λ line. line ++ codes "\n") lines ++ rest

-- The text is lines that state these PCRs, and name these banks that can't be replayed.
abbrev pub IsTextOf : List ℕ → List HeldPcr → List (List ℕ) → Type 0
IsTextOf text pcrs unsupported =
    (section : Section) × BeginsWith text (record { pcrs = pcrs; unsupported = unsupported; section = section }) []

-- There are bytes, and their first line doesn't end, or it can't be read.
abbrev pub BeginsWrong : Stated → List ℕ → Type 0
BeginsWrong stated rest =
    ((rest ≢ []) × Lacks 10 rest)
    ⊎ ((line : List ℕ) × (after : List ℕ) × (rest ≡ line ++ (codes "\n" ++ after)) × Lacks 10 line
    × ((next : Stated) → IsRead stated line next → ⊥))

-- The offset of the first wrong line: those before it are read.
pub record StopsAt (text : List ℕ) (offset : ℕ) : Type 0 where
  pub stated : Stated
  pub rest : List ℕ
  pub before : BeginsWith text stated rest
  pub here : offset + length rest ≡ length text
  pub wrong : BeginsWrong stated rest

-- Why a text has no PCRs: an allocation failed, or a line is wrong.
abbrev pub IsTextError : List ℕ → HeldError → Type 0
IsTextError text Memory = ⊤
IsTextError text (Line offset) = StopsAt text offset

-- The file of one PCR is its hex digits and a line break.
abbrev pub IsFileOf : Bank → List ℕ → List ℕ → Type 0
IsFileOf bank text value = (digits : List ℕ) × (text ≡ digits ++ codes "\n") × IsValueIn bank digits value

-- Why a file has no value: an allocation failed, or its one line is wrong.
abbrev pub IsFileError : Bank → List ℕ → HeldError → Type 0
IsFileError bank text Memory = ⊤
IsFileError bank text (Line offset) = (offset ≡ 0) × ((value : List ℕ) → IsFileOf bank text value → ⊥)
