use Rattle.std.proofs.Common.{◌≡◌, ◌++◌, encode_utf8, length, string_bytes}
use Rattle.std.specs.List.{flat_map}
use Rattle.audit_text.specs.words.Texts.{before_nul}
use Rattle.audit_text.proofs.words.printed.bytes_before_nul.Given as goal

-- The text so far and that of the bytes to come are the text of all.
abbrev pub invariant-loop-rest : goal.invariant-loop-rest
invariant-loop-rest l =
    string_bytes l.text ++ flat_map encode_utf8 (before_nul l.rest) ≡ flat_map encode_utf8 (before_nul l.bytes)

abbrev pub decreases-loop-rest : goal.decreases-loop-rest
decreases-loop-rest l = length l.rest
