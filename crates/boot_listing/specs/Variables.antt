-- The boot manager's variables among the files of a folder (UEFI 2.10, 3.3 "Globally Defined Variables").
use Rattle.std.specs.Prelude.{◌<◌, ℕ, ◌/◌, ◌%◌, ◌==◌, ◌&&◌, ◌||◌, ◌^◌, not, nat_le, nat_lt, eqb, flat_map, Bool, true, if◌then◌else◌, List, [], ◌∷◌, ◌++◌, length, drop, filter, codes, string_bytes, Option, None, Some, ⊤}
use Rattle.std.specs.Fmt.{digit_glyph}
use Rattle.std.specs.List.{list_any, range_with_len}
use Rattle.std.specs.Option.{option_and_then, unwrap_or}
use Rattle.std.specs.Str.{bytes_eq}
use Rattle.uefi_base.specs.LittleEndian.{u16_at}
use Rattle.uefi_base.specs.Unaligned.{units_of}
use Rattle.boot_listing.specs.declared.variables.BootVariable.{BootVariable}
use Rattle.boot_listing.specs.declared.variables.BootVariable.TheVariants.{BootCurrent, BootOrder, BootOption}
use Rattle.boot_listing.specs.declared.variables.VariableFile.{VariableFile}

-- Two upper case hex digits.
abbrev pub upper_hex : ℕ → List ℕ
upper_hex byte = digit_glyph true (byte / 16) ∷ digit_glyph true (byte % 16) ∷ []

-- The name of a variable. That of a boot option has its number in four digits.
abbrev pub name_of : BootVariable → List ℕ
name_of BootCurrent = codes "BootCurrent"
name_of BootOrder = codes "BootOrder"
name_of (BootOption number) = codes "Boot" ++ upper_hex (number / 256) ++ upper_hex (number % 256)

-- The number of a boot option has two bytes.
abbrev pub IsVariable : BootVariable → Type 0
IsVariable BootCurrent = ⊤
IsVariable BootOrder = ⊤
IsVariable (BootOption number) = number < 2 ^ 16

-- How a file's name ends in efivarfs: the GUID `EFI_GLOBAL_VARIABLE`.
abbrev pub global_variable : List ℕ
global_variable = codes "-8be4df61-93ca-11d2-aa0d-00e098032b8c"

-- A file of this name is the variable: it is named so, alone or with the GUID behind it.
abbrev pub is_file_of : BootVariable → List ℕ → Bool
is_file_of variable name = bytes_eq name (name_of variable) || bytes_eq name (name_of variable ++ global_variable)

-- The bytes of each file of a variable.
abbrev pub bytes_if : BootVariable → VariableFile → List (List ℕ)
bytes_if variable file = if is_file_of variable (string_bytes file.name) then file.bytes.items ∷ [] else []

unfoldable pub files_of : BootVariable → List VariableFile → List (List ℕ)
files_of variable files = flat_map (bytes_if variable) files

-- The value of a variable: what comes after the four bytes of its attributes.
abbrev pub value_of : List ℕ → Option (List ℕ)
value_of bytes = if nat_le 4 (length bytes) then Some (drop 4 bytes) else None

-- The number of a boot option that the value of `BootCurrent` is: two bytes, little-endian.
abbrev pub boot_current : List ℕ → Option ℕ
boot_current value = if length value == 2 then Some (u16_at value 0) else None

-- The numbers of boot options that the value of `BootOrder` has: two bytes each, little-endian.
abbrev pub boot_order : List ℕ → Option (List ℕ)
boot_order value = if length value % 2 == 0 then Some (units_of value) else None

-- The numbers that the one file of `BootOrder` has; none if there is no such file, or more than one, or it can't be read.
abbrev pub ordered : List (List ℕ) → List ℕ
ordered [] = []
ordered (bytes ∷ []) = unwrap_or (option_and_then boot_order (value_of bytes)) []
ordered (bytes ∷ other ∷ more) = []

abbrev pub has_number : List ℕ → ℕ → Bool
has_number numbers number = list_any (eqb number) numbers

-- The numbers of a list but those before it, each where it comes first.
unfoldable pub distinct_after : List ℕ → List ℕ → List ℕ
distinct_after before [] = []
distinct_after before (number ∷ numbers) =
    if has_number before number then distinct_after (number ∷ before) numbers
    else number ∷ distinct_after (number ∷ before) numbers

-- The numbers that have a file and aren't in the order, from the least.
abbrev pub is_other : List VariableFile → List ℕ → ℕ → Bool
is_other files order number = not (has_number order number) && nat_lt 0 (length (files_of (BootOption number) files))

-- The numbers of the boot options, each once: those of `BootOrder` in its order, then the others.
abbrev pub numbers_of : List VariableFile → List ℕ
numbers_of files =
    let order = ordered (files_of BootOrder files) in
    distinct_after [] order ++ filter (is_other files order) (range_with_len 0 (2 ^ 16))
