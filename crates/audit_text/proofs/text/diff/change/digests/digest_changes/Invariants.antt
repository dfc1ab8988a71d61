use Rattle.std.proofs.Common.{◌≡◌, map, string_bytes, take}
use Rattle.std.specs.List.{filter}
use Rattle.uefi_tcg.specs.LogViews.{event_of}
use Rattle.audit_text.specs.text.Change.{digest_change, has_words}
use Rattle.audit_text.proofs.text.diff.change.digests.digest_changes.Given as goal

-- They are those of the algorithms so far.
abbrev pub invariant-loop-algorithm : goal.invariant-loop-algorithm
invariant-loop-algorithm l =
    map string_bytes l.changes.items ≡ filter has_words (map (digest_change (event_of l.old) (event_of l.new))
    (map (λ id. id.0) (take l.algorithm-index l.algorithms)))
