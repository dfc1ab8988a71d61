-- Texts of a log as text in UTF-8.
use Rattle.std.specs.Prelude.{ℕ, ◌==◌, ◌&&◌, nat_le, List, [], ◌∷◌, encode_utf8, if◌then◌else◌}
use Rattle.std.specs.List.{flat_map}
use Rattle.uefi_base.specs.GuidText.{guid_text}
use Rattle.tcg_event.specs.CrtmVersion.{CrtmVersion, ucs2, guid, other}
use Rattle.tcg_event.specs.Text as texts
use Rattle.tcg_event.specs.Text.{EventText, utf8, utf16}
use Rattle.shown.specs.Name.{shown_name, shown_name_bytes}

-- The character of a unit: U+FFFD for a surrogate.
abbrev pub unit_text : ℕ → List ℕ
unit_text unit = if nat_le 0xd800 unit && nat_le unit 0xdfff then encode_utf8 0xfffd else encode_utf8 unit

-- The units before the first NUL.
unfoldable pub before_nul : List ℕ → List ℕ
before_nul [] = []
before_nul (unit ∷ units) = if unit == 0 then [] else unit ∷ before_nul units

-- The text of an event as a file's name is shown: on one line, and with nothing in it hidden.
unfoldable pub shown_event : EventText → List ℕ
shown_event (utf8 text) = shown_name text.characters
shown_event (utf16 text) = shown_name (flat_map unit_text text.characters)
shown_event (texts.other bytes) = shown_name_bytes bytes

-- A version: its text, or its GUID.
unfoldable pub shown_version : CrtmVersion → List ℕ
shown_version (ucs2 units) = shown_name (flat_map unit_text units)
shown_version (guid bytes) = guid_text bytes
shown_version (other text) = shown_event text
