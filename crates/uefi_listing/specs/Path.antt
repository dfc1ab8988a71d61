-- What `path` lists: the device path that is a prefix of the bytes.
use Rattle.std.specs.Prelude.{ℕ, List, ◌++◌, length, codes, flat_map, ◌≡◌}
use Rattle.std.specs.Fmt.{decimal}
use Rattle.std.specs.declared.string.String.{String}
use Rattle.uefi_base.specs.GuidText.{hex_byte}
use Rattle.uefi_path.specs.Node.{Node, joined}
use Rattle.uefi_path.specs.Path.{AreInstances, all_but_last, IsPath, HasPath}
use Rattle.uefi_base.specs.Appending.{AppendsText}
use Rattle.shown.specs.HexText.{gap_before, hex_of}
use Rattle.uefi_base.specs.Prefix.{IsPrefix}
use Rattle.uefi_listing.specs.declared.listing.Outcome.{Outcome}
use Rattle.uefi_listing.specs.declared.listing.Outcome.TheVariants.{Listed, Refused}

-- Two spaces, the type and the subtype in hex, and the data in hex.
unfoldable pub node_line : Node → List ℕ
node_line node = codes "  " ++ hex_byte node.device_type ++ codes " " ++ hex_byte node.sub_type ++ gap_before node.payload ++ hex_of node.payload ++ codes "\n"

-- The length of an instance in bytes, and a line for each node but the one that ends it.
unfoldable pub instance_lines : List Node → List ℕ
instance_lines nodes = codes "instance " ++ decimal (length (joined nodes)) ++ codes "\n" ++ flat_map node_line (all_but_last nodes)

-- The lines of the instances, and the length of the path in bytes.
abbrev pub path_lines : List Node → List (List Node) → List ℕ
path_lines nodes parts = flat_map instance_lines parts ++ codes "path " ++ decimal (length (joined nodes)) ++ codes "\n"

-- The text grows by the lines of the path's instances and of the path.
abbrev pub AppendsPathLines : {A : Type 0} → String A → String A → List Node → Type 0
AppendsPathLines old new nodes = (parts : List (List Node)) × AreInstances parts nodes × AppendsText old new (path_lines nodes parts)

-- The text lists the path that is a prefix of the bytes, and its instances.
pub record ListsPath (bytes text : List ℕ) (nodes : List Node) (parts : List (List Node)) : Type 0 where
  pub path : IsPath nodes
  pub stands : IsPrefix (joined nodes) bytes
  pub instances : AreInstances parts nodes
  pub lines : text ≡ path_lines nodes parts

-- If no prefix of the bytes is a path, the text says that they are refused.
abbrev pub PathListing : List ℕ → List ℕ → Outcome → Type 0
PathListing bytes text Listed = (nodes : List Node) × (parts : List (List Node)) × ListsPath bytes text nodes parts
PathListing bytes text Refused = (¬ HasPath bytes) × (text ≡ codes "refused InvalidLength\n")
