use Rattle.std.proofs.Common.{◌≡◌, encode_utf8, string_bytes, take}
use Rattle.std.specs.List.{flat_map}
use Rattle.audit_text.proofs.words.texts.byte_text.Given as goal

-- The characters so far.
abbrev pub invariant-loop-byte : goal.invariant-loop-byte
invariant-loop-byte l = string_bytes l.text ≡ flat_map encode_utf8 (take l.byte-index l.bytes)
