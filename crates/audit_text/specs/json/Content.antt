-- What data say as JSON: an object with one key; `null`, if they aren't read.
use Rattle.std.specs.Prelude.{List, [], ◌∷◌}
use Rattle.uefi_audits.specs.content.Content.{Content}
use Rattle.audit_text.specs.json.Json.{Json, null, object}
use Rattle.audit_text.specs.parts.Contents.{content_parts}
use Rattle.audit_text.specs.parts.Part.{Part, members_of}

abbrev pub object_or_null : List Part → Json
object_or_null [] = null
object_or_null (part ∷ parts) = object (members_of (part ∷ parts))

unfoldable pub content_json : Content → Json
content_json content = object_or_null (content_parts content)
