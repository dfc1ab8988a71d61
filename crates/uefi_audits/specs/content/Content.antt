-- What the data of an event say, by the event's type (TCG PC Client Platform Firmware Profile 1.06, 10.4.1).
use Rattle.std.specs.Prelude.{ℕ, ◌≡◌, ◌==◌, ◌&&◌, nat_le, List, length, Option, Some, None, Bool, true, false, if◌then◌else◌}
use Rattle.std.specs.List.{list_all}
use Rattle.uefi_base.specs.LittleEndian.{u32_at}
use Rattle.uefi_path.specs.Node.{Node}
use Rattle.pcr_replay.specs.Start.{locality_in}
use Rattle.tcg_event.specs.Blob.{Blob, DescribedBlob, ReadsBlob, ReadsDescribedBlob}
use Rattle.tcg_event.specs.CrtmVersion.{CrtmVersion, version_in}
use Rattle.tcg_event.specs.Gpt.{GptData, ReadsGptData}
use Rattle.tcg_event.specs.Image.{Image, ReadsImage}
use Rattle.tcg_event.specs.Tagged.{Tagged, AreTagged}
use Rattle.tcg_event.specs.Text.{EventText, text_in}
use Rattle.tcg_event.specs.Variable.{Variable, ReadsVariable}
use Rattle.uefi_tcg.specs.declared.uintn_size.UintnSize.{UintnSize}
use Rattle.uefi_tcg.specs.v2.Header.{Header}
use Rattle.uefi_audits.specs.content.Form.{Form}
use Rattle.uefi_audits.specs.content.Form.{OfNoAction, OfSeparator, OfText, OfPostCode, OfBlob, OfDescribedBlob, OfCrtmVersion, OfTagged, OfGpt, OfVariable, OfAuthority, OfImage, Other}
use Rattle.uefi_audits.specs.content.Header.{ReadsHeader}
use Rattle.uefi_audits.specs.content.Path.{ReadsNodes}
use Rattle.uefi_audits.specs.content.Value.{Value, ValueForm, SaysValue, authority_form, value_form}

-- What data say: a text that names what was measured, the number of a separator, the locality at which the TPM was started, the header of a log, what a boot loader says of what it measured or firmware of what it did, the version of the root of trust, a blob of firmware without a description and with one, tagged events and the bytes after them, a partition table, a variable with what its value says, an image with the nodes of its device path; or nothing that is read here.
pub data Content : Type 0 where
  unread : Content
  text : List ℕ → Content
  separator : ℕ → Content
  locality : ℕ → Content
  header : Header → Content
  loader_text : EventText → Content
  crtm_version : CrtmVersion → Content
  blob : Blob → Content
  described_blob : DescribedBlob → Content
  tagged : List Tagged → List ℕ → Content
  gpt : GptData → Content
  variable : Variable → Value → Content
  image : Image → Option (List Node) → Content

-- What is found, or nothing.
abbrev pub or_unread : {A : Type 0} → (A → Content) → Option A → Content
or_unread says (Some found) = says found
or_unread says None = unread

-- The number of a separator: the four bytes, little-endian.
abbrev pub separator_content : List ℕ → Content
separator_content bytes = if length bytes == 4 then separator (u32_at bytes 0) else unread

-- A text: each byte is a character of ASCII that prints, or a space.
abbrev pub is_printed : ℕ → Bool
is_printed byte = nat_le 0x20 byte && nat_le byte 0x7e

abbrev pub are_printed : List ℕ → Bool
are_printed bytes = list_all is_printed bytes

abbrev pub text_content : List ℕ → Content
text_content bytes = if are_printed bytes then text bytes else unread

-- Data of another type: a text, unless there are none.
abbrev pub label_content : List ℕ → Content
label_content bytes = if length bytes == 0 then unread else text_content bytes

-- An event that extends nothing states a locality, which data are that are `StartupLocality`, a zero byte and it; or it has the header of a log.
unfoldable pub NoActionContent : Option ℕ → List ℕ → Content → Type 0
NoActionContent (Some number) bytes content = content ≡ locality number
NoActionContent None bytes content = (found : Option Header) × ReadsHeader bytes found × (content ≡ or_unread header found)

-- A blob.
unfoldable pub BlobContent : List ℕ → Content → Type 0
BlobContent bytes content = (found : Option Blob) × ReadsBlob bytes found × (content ≡ or_unread blob found)

-- What firmware measured as it started the platform: a text, or else a blob.
unfoldable pub PostCodeContent : Bool → List ℕ → Content → Type 0
PostCodeContent true bytes content = content ≡ text bytes
PostCodeContent false bytes content = BlobContent bytes content

-- A variable with a value of a form, and with what that says.
abbrev pub HasValue : ValueForm → Variable → Content → Type 0
HasValue form read content = (value : Value) × SaysValue form read.payload value × (content ≡ variable read value)

-- A variable, with what its value says by its GUID and its name.
abbrev pub VariableContent : (List ℕ → List ℕ → ValueForm) → Option Variable → Content → Type 0
VariableContent form (Some read) content = HasValue (form read.guid read.name) read content
VariableContent form None content = content ≡ unread

-- An image, with the nodes of its path.
abbrev pub ImageContent : Option Image → Content → Type 0
ImageContent (Some read) content = (nodes : Option (List Node)) × ReadsNodes read.device_path nodes × (content ≡ image read nodes)
ImageContent None content = content ≡ unread

-- What data of a form say, with a UINTN of this size.
unfoldable pub Says : UintnSize → Form → List ℕ → Content → Type 0
Says size OfNoAction bytes content = NoActionContent (locality_in bytes) bytes content
Says size OfSeparator bytes content = content ≡ separator_content bytes
Says size OfText bytes content = content ≡ loader_text (text_in bytes)
Says size OfPostCode bytes content = PostCodeContent (are_printed bytes) bytes content
Says size OfBlob bytes content = BlobContent bytes content
Says size OfDescribedBlob bytes content =
    (found : Option DescribedBlob) × ReadsDescribedBlob bytes found × (content ≡ or_unread described_blob found)
Says size OfCrtmVersion bytes content = content ≡ crtm_version (version_in bytes)
Says size OfTagged bytes content =
    (events : List Tagged) × (rest : List ℕ) × AreTagged bytes events rest × (content ≡ tagged events rest)
Says size OfGpt bytes content = (found : Option GptData) × ReadsGptData size bytes found × (content ≡ or_unread gpt found)
Says size OfVariable bytes content =
    (found : Option Variable) × ReadsVariable bytes found × VariableContent value_form found content
Says size OfAuthority bytes content =
    (found : Option Variable) × ReadsVariable bytes found × VariableContent authority_form found content
Says size OfImage bytes content = (found : Option Image) × ReadsImage size bytes found × ImageContent found content
Says size Other bytes content = content ≡ label_content bytes
