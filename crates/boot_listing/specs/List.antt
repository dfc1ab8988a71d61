-- What `list` prints: the boot manager's variables among the files of a folder (UEFI 2.10, 3.1 "Firmware Boot Manager" and 3.3 "Globally Defined Variables").
use Rattle.std.specs.Prelude.{◌≡◌, ◌≢◌, ◌⊎◌, ℕ, ◌%◌, ◌==◌, if◌then◌else◌, List, [], ◌∷◌, ◌++◌, codes, flat_map, encode_utf8_all, Option, None, Some}
use Rattle.uefi_base.specs.Utf16.{lossy_characters}
use Rattle.uefi_path.specs.LoadOption.{LoadOption, IsLoadOption, EncodesLoadOption, HasFault, load_option_bytes, with_nul}
use Rattle.uefi_path.specs.declared.load_option_error.LoadOptionError.{LoadOptionError}
use Rattle.shown.specs.HexText.{gap_before, hex_of, hex_number}
use Rattle.shown.specs.Name.{shown_name}
use Rattle.boot_listing.specs.Json.{elements}
use Rattle.boot_listing.specs.Option.{fault_of, load_option_members}
use Rattle.boot_listing.specs.Refusal.{refusal_line}
use Rattle.boot_listing.specs.Text.{nodes_as_text}
use Rattle.boot_listing.specs.Variables.{boot_current, boot_order, files_of, name_of, numbers_of, value_of}
use Rattle.boot_listing.specs.declared.command.Form.{Form}
use Rattle.boot_listing.specs.declared.command.Form.TheVariants.{Lines, Json}
use Rattle.boot_listing.specs.declared.outcome.Outcome.{Outcome}
use Rattle.boot_listing.specs.declared.outcome.Outcome.TheVariants.{Listed, Refused}
use Rattle.boot_listing.specs.declared.variables.BootVariable.{BootVariable}
use Rattle.boot_listing.specs.declared.variables.BootVariable.TheVariants.{BootCurrent, BootOrder, BootOption}
use Rattle.boot_listing.specs.declared.variables.VariableFile.{VariableFile}

-- A variable's name and a fault: a line with both, or an object.
unfoldable pub fault_line : Form → BootVariable → List ℕ → List ℕ
fault_line Lines variable fault = name_of variable ++ codes " " ++ fault ++ codes "\n"
fault_line Json variable fault =
    codes "{\"name\":\"" ++ name_of variable ++ codes "\",\"fault\":\"" ++ fault ++ codes "\"}\n"

-- What `BootCurrent` is: the name of a boot option.
unfoldable pub current_option : Form → ℕ → List ℕ
current_option Lines number = codes "BootCurrent " ++ name_of (BootOption number) ++ codes "\n"
current_option Json number =
    codes "{\"name\":\"BootCurrent\",\"option\":\"" ++ name_of (BootOption number) ++ codes "\"}\n"

abbrev pub current_line : Form → Option ℕ → List ℕ
current_line form None = fault_line form BootCurrent (codes "refused InvalidLength")
current_line form (Some number) = current_option form number

abbrev pub current_value_line : Form → Option (List ℕ) → List ℕ
current_value_line form None = fault_line form BootCurrent (codes "refused NoAttributes")
current_value_line form (Some value) = current_line form (boot_current value)

-- The line of `BootCurrent`, by the files that it has.
abbrev pub current_lines : Form → List (List ℕ) → List ℕ
current_lines form [] = []
current_lines form (bytes ∷ []) = current_value_line form (value_of bytes)
current_lines form (bytes ∷ other ∷ more) = fault_line form BootCurrent (codes "twice")

-- The names of boot options, each behind a space.
unfoldable pub option_name : ℕ → List ℕ
option_name number = codes " " ++ name_of (BootOption number)

unfoldable pub option_names : List ℕ → List ℕ
option_names numbers = flat_map option_name numbers

-- The name of a boot option as a string of JSON.
unfoldable pub name_string : ℕ → List ℕ
name_string number = codes "\"" ++ name_of (BootOption number) ++ codes "\""

-- What `BootOrder` is: a line with the names of boot options, or an object with an array of them.
unfoldable pub order_names : List ℕ → List ℕ
order_names numbers = codes "BootOrder" ++ option_names numbers ++ codes "\n"

unfoldable pub order_object : List ℕ → List ℕ
order_object numbers = codes "{\"name\":\"BootOrder\",\"options\":[" ++ elements name_string numbers ++ codes "]}\n"

abbrev pub order_options : Form → List ℕ → List ℕ
order_options Lines numbers = order_names numbers
order_options Json numbers = order_object numbers

abbrev pub order_line : Form → Option (List ℕ) → List ℕ
order_line form None = fault_line form BootOrder (codes "refused InvalidLength")
order_line form (Some numbers) = order_options form numbers

abbrev pub order_value_line : Form → Option (List ℕ) → List ℕ
order_value_line form None = fault_line form BootOrder (codes "refused NoAttributes")
order_value_line form (Some value) = order_line form (boot_order value)

-- The line of `BootOrder`, by the files that it has.
abbrev pub order_lines : Form → List (List ℕ) → List ℕ
order_lines form [] = []
order_lines form (bytes ∷ []) = order_value_line form (value_of bytes)
order_lines form (bytes ∷ other ∷ more) = fault_line form BootOrder (codes "twice")

-- A boot option is active if the first bit of its attributes is set.
abbrev pub state : ℕ → List ℕ
state attributes = if attributes % 2 == 1 then codes "active" else codes "inactive"

unfoldable pub state_lines : ℕ → ℕ → List ℕ
state_lines number attributes =
    name_of (BootOption number) ++ codes " " ++ state attributes ++ codes "\n  attributes " ++ hex_number attributes ++ codes "\n"

-- The characters of a description, up to its NUL.
unfoldable pub description_line : List ℕ → List ℕ
description_line units = codes "  description " ++ shown_name (encode_utf8_all (lossy_characters units)) ++ codes "\n"

unfoldable pub image_lines : LoadOption → List ℕ
image_lines option =
    codes "  path " ++ nodes_as_text option.file_path
    ++ codes "\n  data" ++ gap_before option.optional_data ++ hex_of option.optional_data ++ codes "\n"

-- The lines of a boot option.
unfoldable pub boot_option_lines : ℕ → LoadOption → List ℕ
boot_option_lines number option =
    state_lines number option.attributes ++ description_line (with_nul option.description) ++ image_lines option

-- Its object: the name, whether it is active, and the members for the load option.
abbrev pub json_state : ℕ → List ℕ
json_state attributes = if attributes % 2 == 1 then codes "true" else codes "false"

unfoldable pub state_members : ℕ → ℕ → List ℕ
state_members number attributes =
    codes "{\"name\":\"" ++ name_of (BootOption number) ++ codes "\",\"active\":" ++ json_state attributes ++ codes ","

unfoldable pub boot_option_object : ℕ → LoadOption → List ℕ
boot_option_object number option =
    state_members number option.attributes ++ load_option_members option ++ codes "}\n"

-- The text of a boot option.
abbrev pub boot_option_text : Form → ℕ → LoadOption → List ℕ
boot_option_text Lines number option = boot_option_lines number option
boot_option_text Json number option = boot_option_object number option

-- The text lists the boot option that the value is.
pub record ListsValue (form : Form) (number : ℕ) (value text : List ℕ) (option : LoadOption) : Type 0 where
  pub fits : IsLoadOption option
  pub stands : value ≡ load_option_bytes option
  pub lines : text ≡ boot_option_text form number option

-- The value is no boot option, and the text says why.
pub record RefusesValue (form : Form) (number : ℕ) (value text : List ℕ) (error : LoadOptionError) : Type 0 where
  pub none : ¬ EncodesLoadOption value
  pub fault : HasFault value error
  pub line : text ≡ fault_line form (BootOption number) (fault_of error)

abbrev pub TellsValue : Form → ℕ → Option (List ℕ) → List ℕ → Type 0
TellsValue form number None text = text ≡ fault_line form (BootOption number) (codes "refused NoAttributes")
TellsValue form number (Some value) text =
    ((option : LoadOption) × ListsValue form number value text option) ⊎ ((error : LoadOptionError) × RefusesValue form number value text error)

-- The text tells what there is of a boot option, by its files: none, one, or more, of which none counts.
abbrev pub TellsOption : Form → ℕ → List (List ℕ) → List ℕ → Type 0
TellsOption form number [] text = text ≡ fault_line form (BootOption number) (codes "missing")
TellsOption form number (bytes ∷ []) text = TellsValue form number (value_of bytes) text
TellsOption form number (bytes ∷ other ∷ more) text = text ≡ fault_line form (BootOption number) (codes "twice")

-- The text tells of the boot options, in this order.
abbrev pub TellsOptions : Form → List VariableFile → List ℕ → List ℕ → Type 0
TellsOptions form files [] text = text ≡ []
TellsOptions form files (number ∷ numbers) text =
    (first rest : List ℕ) × TellsOption form number (files_of (BootOption number) files) first × TellsOptions form files numbers rest
    × (text ≡ first ++ rest)

-- The text tells of the variables: what was booted, the order, and the boot options.
abbrev pub TellsVariables : Form → List VariableFile → List ℕ → Type 0
TellsVariables form files text =
    (options : List ℕ) × TellsOptions form files (numbers_of files) options
    × (text ≡ current_lines form (files_of BootCurrent files) ++ order_lines form (files_of BootOrder files) ++ options)

-- Files of which none is a variable of the boot manager are refused.
abbrev pub FolderListing : Form → List VariableFile → List ℕ → Outcome → Type 0
FolderListing form files text Listed = TellsVariables form files text × (text ≢ [])
FolderListing form files text Refused = TellsVariables form files [] × (text ≡ refusal_line form (codes "refused NoBootVariable"))
