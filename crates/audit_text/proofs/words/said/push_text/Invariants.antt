use Rattle.std.proofs.Common.{◌≡◌, ◌++◌, string_bytes, take}
use Rattle.std.specs.List.{flat_map}
use Rattle.audit_text.specs.words.Said.{shown_one}
use Rattle.audit_text.proofs.words.said.push_text.Given as goal

-- What was appended so far.
abbrev pub invariant-loop-character : goal.invariant-loop-character
invariant-loop-character l =
    string_bytes l.text ≡ string_bytes l.initial.text ++ flat_map shown_one (take l.character-index l.first)
