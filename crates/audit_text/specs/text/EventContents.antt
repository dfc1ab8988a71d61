-- The lines of what the data of an event say.
use Rattle.std.specs.Prelude.{ℕ, List, [], ◌∷◌, codes}
use Rattle.uefi_tcg.specs.v2.Header.{Header}
use Rattle.uefi_audits.specs.content.Content.{Content}
use Rattle.audit_text.specs.parts.Contents.{content_parts, header_parts}
use Rattle.audit_text.specs.parts.Part.{Part, bytes_in_block, lines_of}

-- The lines of a header.
abbrev pub header_lines : Header → List ℕ
header_lines it = lines_of (header_parts it)

-- The parts of the data alone, if there are none.
abbrev pub or_data : List ℕ → List Part → List Part
or_data bytes [] = bytes_in_block (codes "  data") bytes ∷ []
or_data bytes (part ∷ parts) = part ∷ parts

-- What data say; the data, if they aren't read.
unfoldable pub content_lines : List ℕ → Content → List ℕ
content_lines bytes content = lines_of (or_data bytes (content_parts content))
