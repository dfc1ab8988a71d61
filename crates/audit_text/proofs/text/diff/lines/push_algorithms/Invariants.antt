use Rattle.std.proofs.Common.{◌≡◌, ◌++◌, string_bytes, take}
use Rattle.audit_text.specs.text.Differences.{algorithm_words}
use Rattle.uefi_audits.specs.diff.Views.{numbers_of}
use Rattle.audit_text.proofs.text.diff.lines.push_algorithms.Given as goal

-- The names of the algorithms so far were appended.
abbrev pub invariant-loop-algorithm : goal.invariant-loop-algorithm
invariant-loop-algorithm l =
    string_bytes l.text ≡ string_bytes l.initial.text ++ algorithm_words (numbers_of (take l.algorithm-index l.algorithms))
