-- What `option` lists: the load option that the bytes are (UEFI 2.10, 3.1.3 "Load Options", EFI_LOAD_OPTION).
use Rattle.std.specs.Prelude.{ℕ, List, ◌++◌, codes, encode_utf8_all, ◌≡◌}
use Rattle.std.specs.Fmt.{decimal}
use Rattle.uefi_base.specs.Utf16.{lossy_characters}
use Rattle.uefi_path.specs.LoadOption.{LoadOption, IsLoadOption, EncodesLoadOption, HasFault, load_option_bytes, with_nul}
use Rattle.uefi_path.specs.declared.load_option_error.LoadOptionError.{LoadOptionError}
use Rattle.uefi_path.specs.declared.load_option_error.LoadOptionError.TheVariants.{TooShort, NotNulTerminated, FilePathListTooLong, FilePath}
use Rattle.shown.specs.HexText.{gap_before, hex_of, hex_number}
use Rattle.shown.specs.HexName.{name_field}
use Rattle.boot_listing.specs.Json.{json_text}
use Rattle.boot_listing.specs.Refusal.{refusal_line}
use Rattle.boot_listing.specs.Text.{nodes_as_text}
use Rattle.boot_listing.specs.declared.command.Form.{Form}
use Rattle.boot_listing.specs.declared.command.Form.TheVariants.{Lines, Json}
use Rattle.boot_listing.specs.declared.outcome.Outcome.{Outcome}
use Rattle.boot_listing.specs.declared.outcome.Outcome.TheVariants.{Listed, Refused}

-- The attributes, the description without its NUL, the text of the path to the image, and the data that the image is given.
unfoldable pub load_option_lines : LoadOption → List ℕ
load_option_lines option =
    codes "attributes " ++ hex_number option.attributes
    ++ codes "\ndescription" ++ name_field option.description
    ++ codes "\npath " ++ nodes_as_text option.file_path
    ++ codes "\ndata" ++ gap_before option.optional_data ++ hex_of option.optional_data
    ++ codes "\n"

-- The members of an object for the attributes and for the characters of the description, up to its NUL.
unfoldable pub description_members : ℕ → List ℕ → List ℕ
description_members attributes units =
    codes "\"attributes\":" ++ decimal attributes
    ++ codes ",\"description\":\"" ++ json_text (encode_utf8_all (lossy_characters units)) ++ codes "\""

-- Those for the text of the path to the image and for the data.
unfoldable pub image_members : LoadOption → List ℕ
image_members option =
    codes ",\"path\":\"" ++ json_text (nodes_as_text option.file_path)
    ++ codes "\",\"data\":\"" ++ hex_of option.optional_data ++ codes "\""

-- The members for a load option.
unfoldable pub load_option_members : LoadOption → List ℕ
load_option_members option =
    description_members option.attributes (with_nul option.description) ++ image_members option

-- The object of a load option.
unfoldable pub load_option_object : LoadOption → List ℕ
load_option_object option = codes "{" ++ load_option_members option ++ codes "}\n"

-- The text of a load option.
abbrev pub load_option_text : Form → LoadOption → List ℕ
load_option_text Lines option = load_option_lines option
load_option_text Json option = load_option_object option

-- What an error of the reader is named by.
abbrev pub fault_of : LoadOptionError → List ℕ
fault_of TooShort = codes "refused TooShort"
fault_of NotNulTerminated = codes "refused NotNulTerminated"
fault_of FilePathListTooLong = codes "refused FilePathListTooLong"
fault_of (FilePath error) = codes "refused FilePath"

-- The text lists the load option that the bytes are.
pub record ListsLoadOption (form : Form) (bytes text : List ℕ) (option : LoadOption) : Type 0 where
  pub fits : IsLoadOption option
  pub stands : bytes ≡ load_option_bytes option
  pub lines : text ≡ load_option_text form option

-- The bytes are no load option, and the text says why.
pub record RefusesLoadOption (form : Form) (bytes text : List ℕ) (error : LoadOptionError) : Type 0 where
  pub none : ¬ EncodesLoadOption bytes
  pub fault : HasFault bytes error
  pub line : text ≡ refusal_line form (fault_of error)

abbrev pub LoadOptionListing : Form → List ℕ → List ℕ → Outcome → Type 0
LoadOptionListing form bytes text Listed = (option : LoadOption) × ListsLoadOption form bytes text option
LoadOptionListing form bytes text Refused = (error : LoadOptionError) × RefusesLoadOption form bytes text error
