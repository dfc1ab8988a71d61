-- What `map` lists: the memory map that all the bytes are at a stride.
use Rattle.std.specs.Prelude.{◌↔◌, ℕ, Bool, List, ◌++◌, length, codes, flat_map, IsTrue, if◌then◌else◌, ◌≡◌}
use Rattle.std.specs.Fmt.{decimal}
use Rattle.std.specs.declared.string.String.{String}
use Rattle.uefi_base.specs.Appending.{AppendsText}
use Rattle.shown.specs.HexText.{hex_number}
use Rattle.uefi_map.specs.declared.memory.descriptor.MemoryDescriptor.{MemoryDescriptor}
use Rattle.uefi_map.specs.declared.memory.meta.MemoryMapMeta.{MemoryMapMeta}
use Rattle.uefi_map.specs.memory.Map.{AreSorted, entries_of, IsMap}
use Rattle.uefi_map.specs.memory.Views.{attribute_bits}
use Rattle.uefi_listing.specs.declared.listing.Outcome.{Outcome}
use Rattle.uefi_listing.specs.declared.listing.Outcome.TheVariants.{Listed, Refused}

-- The type and the page count in decimal, the addresses and the attributes in hex.
unfoldable pub entry_line : MemoryDescriptor → List ℕ
entry_line entry =
    codes "entry " ++ decimal entry.ty.0
    ++ codes " " ++ hex_number entry.phys_start
    ++ codes " " ++ hex_number entry.virt_start
    ++ codes " " ++ decimal entry.page_count
    ++ codes " " ++ hex_number (attribute_bits entry.att)
    ++ codes "\n"

abbrev pub yes_or_no : Bool → List ℕ
yes_or_no value = if value then codes "yes" else codes "no"

-- The lines of the entries, whether they are sorted, and their count.
unfoldable pub map_lines : List MemoryDescriptor → Bool → List ℕ
map_lines entries sorted =
    flat_map entry_line entries
    ++ codes "sorted " ++ yes_or_no sorted
    ++ codes "\nentries " ++ decimal (length entries) ++ codes "\n"

-- The text grows by the lines of the bytes as a map.
abbrev pub AppendsMapLines : {A : Type 0} → String A → String A → List ℕ → MemoryMapMeta → Type 0
AppendsMapLines old new bytes meta =
    (sorted : Bool) × (IsTrue sorted ↔ AreSorted bytes meta) × AppendsText old new (map_lines (entries_of bytes meta) sorted)

-- The metadata of a file of this length as a memory map at this stride: the key is 0, the version 1.
abbrev pub file_meta : ℕ → ℕ → MemoryMapMeta
file_meta size stride = record { map_size = size; desc_size = stride; map_key = record { 0 = 0 }; desc_version = 1 }

-- The text lists the memory map that all the bytes are at this stride.
pub record ListsMap (stride : ℕ) (bytes text : List ℕ) (sorted : Bool) : Type 0 where
  pub map : IsMap (length bytes) (file_meta (length bytes) stride)
  pub order : IsTrue sorted ↔ AreSorted bytes (file_meta (length bytes) stride)
  pub lines : text ≡ map_lines (entries_of bytes (file_meta (length bytes) stride)) sorted

-- If the bytes are no memory map at this stride, the text says that they are refused.
abbrev pub MapListing : ℕ → List ℕ → List ℕ → Outcome → Type 0
MapListing stride bytes text Listed = (sorted : Bool) × ListsMap stride bytes text sorted
MapListing stride bytes text Refused = (¬ IsMap (length bytes) (file_meta (length bytes) stride)) × (text ≡ codes "refused InvalidSize\n")
