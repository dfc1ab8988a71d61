-- What `config` lists: the configurations of the bytes, which are a text.
use Rattle.std.specs.Prelude.{◌≡◌, ℕ, List, ◌++◌, length, codes, flat_map, Option, Some, None, Result, Ok, Err, IsUtf8}
use Rattle.std.specs.Fmt.{decimal}
use Rattle.std.specs.declared.string.String.{String}
use Rattle.uefi_base.specs.GuidText.{guid_text}
use Rattle.uefi_path.specs.Node.{Node, joined}
use Rattle.uefi_hii.specs.declared.error.ConfigHdrSection.{ConfigHdrSection}
use Rattle.uefi_hii.specs.declared.error.ParseError.{ParseError}
use Rattle.uefi_hii.specs.declared.error.ParseError.TheVariants.{ConfigHdr, BlockName, BlockConfig, Memory}
use Rattle.uefi_hii.specs.Pairs.{Pair}
use Rattle.uefi_hii.specs.Configuration.{Configuration, Element}
use Rattle.uefi_hii.specs.Cut.{Part, AreGroups, pairs_of, results_of, Cut}
use Rattle.uefi_base.specs.Appending.{AppendsText}
use Rattle.shown.specs.HexText.{gap_before, hex_of}
use Rattle.uefi_listing.specs.declared.listing.Outcome.{Outcome}
use Rattle.uefi_listing.specs.declared.listing.Outcome.TheVariants.{Listed, Refused}
use Rattle.uefi_hii.specs.declared.error.ConfigHdrSection.TheVariants as section

-- The GUID, the name as it is, and the length of the path in bytes, in a line each.
unfoldable pub header_lines : List ℕ → List ℕ → List Node → List ℕ
header_lines guid name path =
    codes "config " ++ guid_text guid ++ codes "\n  name " ++ name ++ codes "\n  path " ++ decimal (length (joined path)) ++ codes "\n"

-- The identifier of an alternative configuration; others have no such line.
unfoldable pub alt_line : Option ℕ → List ℕ
alt_line None = codes ""
alt_line (Some id) = codes "  alt " ++ decimal id ++ codes "\n"

-- Offset and width in decimal, and the value in hex if it has any bytes.
unfoldable pub element_line : Element → List ℕ
element_line element =
    codes "  element " ++ decimal element.offset ++ codes " " ++ decimal element.width ++ gap_before element.value ++ hex_of element.value ++ codes "\n"

-- A line to its end: an equals sign and the value, if there is one.
unfoldable pub value_and_end : Option (List ℕ) → List ℕ
value_and_end None = codes "\n"
value_and_end (Some value) = codes "=" ++ value ++ codes "\n"

-- A pair that an element keeps: its key, and its value if it has one. A space comes before the key, also before an empty one.
unfoldable pub nv_line : Pair → List ℕ
nv_line pair = codes "  nv " ++ pair.key ++ value_and_end pair.value

-- The line of an element, and a line for each pair that it keeps.
unfoldable pub element_lines : Element → List ℕ
element_lines element = element_line element ++ flat_map nv_line element.nvconfig

unfoldable pub configuration_lines : Configuration → List ℕ
configuration_lines c = header_lines c.guid c.name c.path ++ alt_line c.alt_cfg_id ++ flat_map element_lines c.elements

-- The name of an error; running out of memory has none, since it is not listed.
abbrev pub section_name : ConfigHdrSection → List ℕ
section_name section.Guid = codes "Guid"
section_name section.Name = codes "Name"
section_name section.Path = codes "Path"
section_name section.DescHdr = codes "DescHdr"

unfoldable pub fault_line : ParseError → List ℕ
fault_line (ConfigHdr part) = codes "fault ConfigHdr(" ++ section_name part ++ codes ")\n"
fault_line BlockName = codes "fault BlockName\n"
fault_line BlockConfig = codes "fault BlockConfig\n"
fault_line Memory = codes ""

-- The lines of a configuration, or the line of the fault.
abbrev pub item_lines : Result Configuration ParseError → List ℕ
item_lines (Ok c) = configuration_lines c
item_lines (Err fault) = fault_line fault

abbrev pub result_lines : List (Result Configuration ParseError) → List ℕ
result_lines results = flat_map item_lines results ++ codes "items " ++ decimal (length results) ++ codes "\n"

-- The text grows by the lines of the results of groups that together are the pairs.
abbrev pub AppendsConfigLines : {A : Type 0} → String A → String A → List Pair → Type 0
AppendsConfigLines old new pairs = (parts : List Part) × (pairs_of parts ≡ pairs) × AreGroups parts × AppendsText old new (result_lines (results_of parts))

-- The text lists the results of the cut of the bytes, which are UTF-8.
pub record ListsConfigurations (bytes text : List ℕ) (parts : List Part) : Type 0 where
  pub is_text : IsUtf8 bytes
  pub cut : Cut bytes parts
  pub lines : text ≡ result_lines (results_of parts)

-- If the bytes are not UTF-8, the text says so.
abbrev pub ConfigListing : List ℕ → List ℕ → Outcome → Type 0
ConfigListing bytes text Listed = (parts : List Part) × ListsConfigurations bytes text parts
ConfigListing bytes text Refused = (¬ IsUtf8 bytes) × (text ≡ codes "refused NotUtf8\n")
