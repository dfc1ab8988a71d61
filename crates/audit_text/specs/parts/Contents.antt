-- What data say, as named parts in the order of the lines of an event's block. In JSON the keys of an object come in order.
use Rattle.std.specs.Prelude.{ℕ, nat_le, List, [], ◌∷◌, ◌++◌, length, map, flat_map, codes, encode_utf8, Option, Some, None, if◌then◌else◌}
use Rattle.hex.specs.Hex.{encode_lower}
use Rattle.shown.specs.Name.{shown_name_bytes}
use Rattle.sha2.specs.Sha256.{sha256}
use Rattle.uefi_path.specs.LoadOption.{LoadOption}
use Rattle.uefi_path.specs.Node.{Node}
use Rattle.uefi_path.specs.Path.{all_but_last}
use Rattle.tcg_event.specs.Blob.{Blob, DescribedBlob}
use Rattle.tcg_event.specs.CrtmVersion as versions
use Rattle.tcg_event.specs.CrtmVersion.{CrtmVersion}
use Rattle.tcg_event.specs.Gpt.{Entry, GptData}
use Rattle.tcg_event.specs.Image.{Image}
use Rattle.tcg_event.specs.Signature.{Signature, SignatureList}
use Rattle.tcg_event.specs.Tagged.{Tagged}
use Rattle.tcg_event.specs.Text as texts
use Rattle.tcg_event.specs.Text.{EventText, text_in, utf8, utf16}
use Rattle.tcg_event.specs.Variable.{Variable}
use Rattle.uefi_tcg.specs.v2.Header.{Header}
use Rattle.uefi_audits.specs.content.Content as contents
use Rattle.uefi_audits.specs.content.Content.{Content}
use Rattle.uefi_audits.specs.content.Value as values
use Rattle.audit_text.specs.parts.Part.{Part, Value, both, bytes, bytes_in_block, bytes_part, boot_number, decimal, end, guid, hexadecimal, in_block, in_json, list, object, objects, plain, rest_part, text, text_in_json, words_alone}
use Rattle.audit_text.specs.words.Names.{algorithm_name}
use Rattle.audit_text.specs.words.Path.{path_text}
use Rattle.audit_text.specs.words.Printed.{printed_text}
use Rattle.audit_text.specs.words.Signatures.{longest_hash, signature_type_name}
use Rattle.audit_text.specs.words.Tags.{tag_name}
use Rattle.audit_text.specs.words.Texts.{before_nul, unit_text}

-- A line of one value; and an object alone.
abbrev pub line : List ℕ → List ℕ → Value → List Part
line key words value = both key words value ∷ end ∷ []

abbrev pub only : List ℕ → List Part → List Part
only key parts = both key [] (object parts) ∷ []

-- The text of an event, without the NUL that may end it; bytes that are no text as those of a file's name are shown.
abbrev pub event_value : EventText → Value
event_value (utf8 it) = text it.characters
event_value (utf16 it) = text (flat_map unit_text it.characters)
event_value (texts.other bytes) = plain (shown_name_bytes bytes)

-- A version: its text, or its GUID.
abbrev pub version_value : CrtmVersion → Value
version_value (versions.ucs2 units) = text (flat_map unit_text units)
version_value (versions.guid it) = guid it
version_value (versions.other it) = event_value it

-- A header: its fields, an algorithm with the size of its digests each, and the vendor's bytes.
abbrev pub algorithm_value : Option (List ℕ) → ℕ → Value
algorithm_value (Some name) number = plain name
algorithm_value None number = hexadecimal number

unfoldable pub size_parts : ℕ × ℕ → List Part
size_parts row =
    both (codes "algorithm") (codes "  algorithm ") (algorithm_value (algorithm_name row.0) row.0)
    ∷ both (codes "size") (codes ", ") (decimal row.1)
    ∷ words_alone (codes " bytes\n") ∷ []

unfoldable pub header_parts : Header → List Part
header_parts it =
    both (codes "major") (codes "  version ") (decimal it.major)
    ∷ both (codes "minor") (codes ".") (decimal it.minor)
    ∷ both (codes "errata") (codes ", errata ") (decimal it.errata)
    ∷ both (codes "platform_class") (codes ", platform class ") (decimal it.platform_class)
    ∷ end
    ∷ in_json (codes "uintn_size") (decimal it.uintn_size)
    ∷ both (codes "algorithms") [] (objects size_parts it.table)
    ∷ bytes_part (codes "vendor_info") (codes "  vendor's bytes") it.vendor ∷ []

-- A blob, without a description and with one, of which each byte is the character of its number.
unfoldable pub blob_parts : Blob → List Part
blob_parts it =
    both (codes "address") (codes "  blob at ") (hexadecimal it.base)
    ∷ both (codes "length") (codes ", ") (decimal it.size)
    ∷ words_alone (codes " bytes\n") ∷ []

unfoldable pub described_parts : DescribedBlob → List Part
described_parts it =
    both (codes "address") (codes "  blob at ") (hexadecimal it.blob.base)
    ∷ both (codes "length") (codes ", ") (decimal it.blob.size)
    ∷ both (codes "description") (codes " bytes: ") (text (flat_map encode_utf8 it.description))
    ∷ end ∷ []

-- A tagged event: the name of its tag, if it has one, and the number, the data, and the text that they are.
abbrev pub tag_parts : Option (List ℕ) → ℕ → List Part
tag_parts (Some name) id =
    both (codes "name") (codes "  tagged event ") (plain name) ∷ both (codes "id") (codes " ") (hexadecimal id) ∷ []
tag_parts None id = both (codes "id") (codes "  tagged event ") (hexadecimal id) ∷ []

unfoldable pub tagged_parts : Tagged → List Part
tagged_parts it =
    tag_parts (tag_name it.id) it.id
    ++ (in_json (codes "data") (bytes it.payload)
    ∷ both (codes "text") (codes ": ") (event_value (text_in it.payload))
    ∷ end ∷ [])

-- A partition table: what its header says of the disk, and the partitions, each with its name up to the first NUL.
unfoldable pub partition_parts : Entry → List Part
partition_parts it =
    both (codes "unique_guid") (codes "  partition ") (guid it.unique_guid)
    ∷ both (codes "first_lba") (codes ", blocks ") (decimal it.first_lba)
    ∷ both (codes "last_lba") (codes " to ") (decimal it.last_lba)
    ∷ both (codes "type_guid") (codes ", type ") (guid it.type_guid)
    ∷ both (codes "attributes") (codes ", attributes ") (hexadecimal it.attributes)
    ∷ both (codes "name") (codes ", name ") (text (flat_map unit_text (before_nul it.name)))
    ∷ end ∷ []

unfoldable pub gpt_parts : GptData → List Part
gpt_parts it =
    both (codes "disk_guid") (codes "  disk ") (guid it.header.disk_guid)
    ∷ both (codes "first_usable_lba") (codes ", blocks ") (decimal it.header.first_usable_lba)
    ∷ both (codes "last_usable_lba") (codes " to ") (decimal it.header.last_usable_lba)
    ∷ end
    ∷ both (codes "partitions") [] (objects partition_parts it.entries) ∷ []

-- A device path: its nodes but the one that ends it, and its text; the bytes, if they are no path.
unfoldable pub node_parts : Node → List Part
node_parts it =
    in_json (codes "data") (bytes it.payload)
    ∷ in_json (codes "subtype") (decimal it.sub_type)
    ∷ in_json (codes "type") (decimal it.device_type) ∷ []

unfoldable pub path_parts : List Node → List Part
path_parts nodes =
    in_json (codes "path") (objects node_parts (all_but_last nodes))
    ∷ both (codes "text") (codes "  path ") (plain (path_text nodes))
    ∷ end ∷ []

abbrev pub path_or_bytes : List ℕ → Option (List Node) → List Part
path_or_bytes bytes (Some nodes) = path_parts nodes
path_or_bytes bytes None = bytes_part (codes "path") (codes "  path") bytes ∷ []

-- An image: its numbers, its device path, and the bytes after that.
unfoldable pub image_parts : Image → Option (List Node) → List Part
image_parts it nodes =
    both (codes "address") (codes "  image at ") (hexadecimal it.location_in_memory)
    ∷ both (codes "length") (codes ", ") (decimal it.length_in_memory)
    ∷ both (codes "link_address") (codes " bytes, linked for ") (hexadecimal it.link_time_address)
    ∷ end
    ∷ (path_or_bytes it.device_path nodes ++ rest_part it.rest ∷ [])

-- A signature: its owner, and its data, or, as of a certificate, their length and their SHA-256.
abbrev pub hash_parts : Signature → List Part
hash_parts it =
    both (codes "owner") (codes "  signature of owner ") (guid it.owner)
    ∷ both (codes "data") (codes ": ") (plain (encode_lower it.payload))
    ∷ end ∷ []

abbrev pub certificate_parts : Signature → List Part
certificate_parts it =
    both (codes "owner") (codes "  signature of owner ") (guid it.owner)
    ∷ both (codes "length") (codes ": ") (decimal (length it.payload))
    ∷ both (codes "sha256") (codes " bytes with SHA-256 ") (plain (encode_lower (sha256 it.payload)))
    ∷ end ∷ []

unfoldable pub signature_parts : Signature → List Part
signature_parts it = if nat_le (length it.payload) longest_hash then hash_parts it else certificate_parts it

-- A list of signatures: what they are, or the GUID of their type, its header, and the signatures.
abbrev pub kind_parts : Option (List ℕ) → List ℕ → List Part
kind_parts (Some name) kind = in_json (codes "type") (guid kind) ∷ in_block (codes "  list of ") (plain name) ∷ []
kind_parts None kind = both (codes "type") (codes "  list of type ") (guid kind) ∷ []

unfoldable pub list_parts : SignatureList → List Part
list_parts it =
    kind_parts (signature_type_name it.kind) it.kind
    ++ (end
    ∷ bytes_part (codes "header") (codes "  header") it.header
    ∷ both (codes "signatures") [] (objects signature_parts it.signatures) ∷ [])

-- A boot option: its attributes and its description, of which no unit is NUL, its path, and the data that the image is given, in JSON
-- also as text, if all of it prints.
abbrev pub boot_option_line : LoadOption → List Part
boot_option_line it =
    both (codes "attributes") (codes "  boot option with attributes ") (hexadecimal it.attributes)
    ∷ both (codes "description") (codes ": ") (text (flat_map unit_text (before_nul it.description)))
    ∷ end ∷ []

unfoldable pub optional_data_parts : List ℕ → List Part
optional_data_parts it =
    bytes_part (codes "optional_data") (codes "  optional data") it
    ∷ text_in_json (codes "optional_text") (printed_text it) ∷ []

unfoldable pub boot_option_parts : LoadOption → List Part
boot_option_parts it = boot_option_line it ++ (path_parts it.file_path ++ optional_data_parts it.optional_data)

-- What the value of a variable says, or the value, in JSON also as text, if all of it prints.
abbrev pub value_parts : List ℕ → values.Value → List Part
value_parts bytes values.unread =
    bytes_in_block (codes "  value") bytes ∷ text_in_json (codes "text") (printed_text bytes) ∷ []
value_parts bytes (values.boot_option it) = only (codes "value") (only (codes "boot_option") (boot_option_parts it))
value_parts bytes (values.boot_order numbers) =
    only (codes "value") (line (codes "boot_order") (codes "  boot order") (list (map boot_number numbers)))
value_parts bytes (values.signature_lists lists) =
    only (codes "value") (both (codes "signature_lists") [] (objects list_parts lists) ∷ [])
value_parts bytes (values.signature it) = only (codes "value") (only (codes "signature") (signature_parts it))

-- A variable: its name, its GUID, its data, and these of its value.
unfoldable pub variable_parts : Variable → List Part → List Part
variable_parts it value =
    both (codes "name") (codes "  variable ") (text (flat_map unit_text it.name))
    ∷ both (codes "guid") (codes ", ") (guid it.guid)
    ∷ end
    ∷ in_json (codes "data") (bytes it.payload)
    ∷ value

-- Tagged events, and the bytes after them.
unfoldable pub tagged_events_parts : List Tagged → List ℕ → List Part
tagged_events_parts events rest = both (codes "events") [] (objects tagged_parts events) ∷ rest_part rest ∷ []

-- What data say; nothing, if they aren't read.
unfoldable pub content_parts : Content → List Part
content_parts contents.unread = []
content_parts (contents.text it) = line (codes "text") (codes "  text ") (text it)
content_parts (contents.separator n) = line (codes "separator") (codes "  separator ") (hexadecimal n)
content_parts (contents.locality n) = line (codes "locality") (codes "  started at locality ") (decimal n)
content_parts (contents.header it) = only (codes "header") (header_parts it)
content_parts (contents.loader_text it) = line (codes "text") (codes "  text ") (event_value it)
content_parts (contents.crtm_version it) = line (codes "crtm_version") (codes "  version ") (version_value it)
content_parts (contents.blob it) = only (codes "blob") (blob_parts it)
content_parts (contents.described_blob it) = only (codes "blob") (described_parts it)
content_parts (contents.tagged events rest) = only (codes "tagged_events") (tagged_events_parts events rest)
content_parts (contents.gpt it) = only (codes "gpt") (gpt_parts it)
content_parts (contents.variable it value) = only (codes "variable") (variable_parts it (value_parts it.payload value))
content_parts (contents.image it nodes) = only (codes "image") (image_parts it nodes)
