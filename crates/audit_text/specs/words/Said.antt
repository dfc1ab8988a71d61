-- What data say, in a few words on one line.
use Rattle.std.specs.Prelude.{ℕ, ◌==◌, ◌-◌, List, [], ◌∷◌, ◌++◌, take, length, codes, encode_utf8, Option, Some, None, if◌then◌else◌}
use Rattle.std.specs.List.{flat_map}
use Rattle.std.specs.Fmt.{decimal}
use Rattle.std.specs.Str.{chars}
use Rattle.uefi_base.specs.GuidText.{guid_text}
use Rattle.uefi_path.specs.Node.{Node}
use Rattle.tcg_event.specs.CrtmVersion.{CrtmVersion, ucs2, guid, other}
use Rattle.tcg_event.specs.Image.{Image}
use Rattle.tcg_event.specs.Tagged.{Tagged}
use Rattle.tcg_event.specs.Text as texts
use Rattle.tcg_event.specs.Text.{EventText, utf8, utf16}
use Rattle.uefi_audits.specs.content.Content.{Content, unread, text, separator, locality, header, loader_text, crtm_version, blob, described_blob, tagged, gpt, variable, image}
use Rattle.audit_text.specs.words.Path.{path_text}
use Rattle.audit_text.specs.words.Texts.{unit_text}
use Rattle.shown.specs.HexText.{hex_number, hex_of}
use Rattle.shown.specs.Name.{shown_name, shown_name_bytes}
use Rattle.audit_text.specs.words.Tags.{tag_text}

-- The most characters of a text or of a name that are shown.
abbrev pub shown_length : ℕ
shown_length = 1000

-- How many more there are, if there are any.
unfoldable pub more : ℕ → List ℕ
more left = if left == 0 then [] else codes "..(" ++ (decimal left ++ codes " more)")

-- The first characters of a text, each as those of a file's name are shown, and how many there are more; those of units; and
-- the first of bytes that are no text, and of bytes in hex.
abbrev pub shown_one : ℕ → List ℕ
shown_one character = shown_name (encode_utf8 character)

unfoldable pub shown_text : List ℕ → List ℕ
shown_text it = flat_map shown_one (take shown_length (chars it)) ++ more (length (chars it) - shown_length)

abbrev pub shown_units : List ℕ → List ℕ
shown_units units = shown_text (flat_map unit_text units)

unfoldable pub shown_bytes : List ℕ → List ℕ
shown_bytes bytes = shown_name_bytes (take shown_length bytes) ++ more (length bytes - shown_length)

unfoldable pub shown_hex : List ℕ → List ℕ
shown_hex bytes = hex_of (take shown_length bytes) ++ more (length bytes - shown_length)

-- The text of an event, and a version.
unfoldable pub event_words : EventText → List ℕ
event_words (utf8 it) = shown_text it.characters
event_words (utf16 it) = shown_units it.characters
event_words (texts.other bytes) = shown_bytes bytes

unfoldable pub version_words : CrtmVersion → List ℕ
version_words (ucs2 units) = shown_units units
version_words (guid bytes) = guid_text bytes
version_words (other it) = event_words it

-- A device path, by its nodes; the first of its bytes in hex, if they are no path.
abbrev pub path_words : List ℕ → Option (List Node) → List ℕ
path_words bytes (Some nodes) = path_text nodes
path_words bytes None = shown_hex bytes

-- An image, by its device path, if it has one.
unfoldable pub image_text : Image → Option (List Node) → List ℕ
image_text it nodes =
    if length it.device_path == 0 then codes "image" else codes "image " ++ path_words it.device_path nodes

-- Tagged events, by the tag of the first one.
unfoldable pub tagged_words : List Tagged → List ℕ
tagged_words [] = codes "no tagged event"
tagged_words (first ∷ others) = codes "tag " ++ tag_text first.id

-- What data say; nothing if they aren't read.
unfoldable pub said : Content → List ℕ
said unread = []
said (text bytes) = shown_bytes bytes
said (separator n) = codes "separator " ++ decimal n
said (locality n) = codes "locality " ++ decimal n
said (header it) = codes "header"
said (loader_text it) = event_words it
said (crtm_version it) = version_words it
said (blob it) = codes "blob at " ++ hex_number it.base
said (described_blob it) = codes "blob " ++ shown_bytes it.description
said (tagged events rest) = tagged_words events
said (gpt it) = codes "disk " ++ guid_text it.header.disk_guid
said (variable it value) = codes "variable " ++ shown_units it.name
said (image it nodes) = image_text it nodes
