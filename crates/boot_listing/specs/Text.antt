-- What `text` lists: the device path that is a prefix of the bytes, as text (UEFI 2.10, 10.6.1 "Text Device Path Reference").
use Rattle.std.specs.Prelude.{ℕ, List, ◌++◌, codes, false, flat_map, ◌≡◌}
use Rattle.std.specs.declared.string.String.{String}
use Rattle.uefi_base.specs.Appending.{AppendsText}
use Rattle.uefi_base.specs.Prefix.{IsPrefix}
use Rattle.uefi_path.specs.Node.{Node, joined}
use Rattle.uefi_path.specs.Path.{AreInstances, IsPath, HasPath}
use Rattle.uefi_path_text.specs.text.PathText.{path_text}
use Rattle.uefi_path_text.specs.text.Style.{style}
use Rattle.boot_listing.specs.Json.{elements, json_text}
use Rattle.boot_listing.specs.Refusal.{refusal_line}
use Rattle.boot_listing.specs.declared.command.Form.{Form}
use Rattle.boot_listing.specs.declared.command.Form.TheVariants.{Lines, Json}
use Rattle.boot_listing.specs.declared.outcome.Outcome.{Outcome}
use Rattle.boot_listing.specs.declared.outcome.Outcome.TheVariants.{Listed, Refused}

-- The text of the nodes of a path or of an instance, which has all of them, and no form of a vendor.
unfoldable pub nodes_as_text : List Node → List ℕ
nodes_as_text nodes = path_text (style false false) nodes

-- The text of an instance.
unfoldable pub text_line : List Node → List ℕ
text_line nodes = nodes_as_text nodes ++ codes "\n"

-- The text of an instance as a string of JSON.
unfoldable pub text_string : List Node → List ℕ
text_string nodes = codes "\"" ++ json_text (nodes_as_text nodes) ++ codes "\""

-- An object with the texts of the instances.
unfoldable pub texts_object : List (List Node) → List ℕ
texts_object parts = codes "{\"paths\":[" ++ elements text_string parts ++ codes "]}\n"

-- The texts of the instances.
abbrev pub texts_of : Form → List (List Node) → List ℕ
texts_of Lines parts = flat_map text_line parts
texts_of Json parts = texts_object parts

-- The string grows by this text of the path's instances.
abbrev pub AppendsPathTexts : {A : Type 0} → (List (List Node) → List ℕ) → String A → String A → List Node → Type 0
AppendsPathTexts text_of old new nodes = (parts : List (List Node)) × AreInstances parts nodes × AppendsText old new (text_of parts)

-- The text lists the path that is a prefix of the bytes, by its instances.
pub record ListsPathText (form : Form) (bytes text : List ℕ) (nodes : List Node) (parts : List (List Node)) : Type 0 where
  pub path : IsPath nodes
  pub stands : IsPrefix (joined nodes) bytes
  pub instances : AreInstances parts nodes
  pub lines : text ≡ texts_of form parts

-- If no prefix of the bytes is a path, the text says that they are refused.
abbrev pub PathTextListing : Form → List ℕ → List ℕ → Outcome → Type 0
PathTextListing form bytes text Listed = (nodes : List Node) × (parts : List (List Node)) × ListsPathText form bytes text nodes parts
PathTextListing form bytes text Refused = (¬ HasPath bytes) × (text ≡ refusal_line form (codes "refused InvalidLength"))
