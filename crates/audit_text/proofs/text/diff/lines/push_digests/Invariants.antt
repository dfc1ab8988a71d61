use Rattle.std.proofs.Common.{◌≡◌, ◌++◌, string_bytes, take}
use Rattle.std.specs.Prelude.{flat_map}
use Rattle.uefi_tcg.specs.LogViews.{event_of}
use Rattle.audit_text.specs.text.Differences.{digest_words}
use Rattle.uefi_audits.specs.diff.Views.{numbers_of}
use Rattle.audit_text.proofs.text.diff.lines.push_digests.Given as goal

-- Those of the algorithms so far were appended.
abbrev pub invariant-loop-algorithm : goal.invariant-loop-algorithm
invariant-loop-algorithm l =
    string_bytes l.text
    ≡ string_bytes l.initial.text ++ flat_map (digest_words (event_of l.event)) (numbers_of (take l.algorithm-index l.algorithms))
