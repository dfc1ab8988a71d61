use Rattle.std.proofs.Common.{◌≡◌, ◌++◌, length, string_bytes}
use Rattle.audit_text.specs.text.EventParts.{hex_lines}
use Rattle.audit_text.proofs.text.events.hex_lines.push_hex_lines.Given as goal

-- The lines so far and those of the rest are those of all bytes.
abbrev pub invariant-loop-rest : goal.invariant-loop-rest
invariant-loop-rest l = string_bytes l.text ++ hex_lines l.rest ≡ string_bytes l.initial.text ++ hex_lines l.bytes

abbrev pub decreases-loop-rest : goal.decreases-loop-rest
decreases-loop-rest l = length l.rest
