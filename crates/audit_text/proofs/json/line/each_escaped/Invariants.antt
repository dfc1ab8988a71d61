use Rattle.std.proofs.Common.{◌≡◌, string_bytes}
use Rattle.std.specs.List.{flat_map}
use Rattle.audit_text.specs.json.Line.{line_character}
use Rattle.audit_text.proofs.json.line.each_escaped.Given as goal

-- The characters so far were appended.
abbrev pub invariant-loop-character : goal.invariant-loop-character
invariant-loop-character l = string_bytes l.line ≡ flat_map line_character l.yielded
