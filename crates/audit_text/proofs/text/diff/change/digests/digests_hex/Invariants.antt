use Rattle.std.proofs.Common.{◌≡◌, ◌++◌, string_bytes}
use Rattle.std.specs.List.{flat_map}
use Rattle.uefi_tcg.specs.LogViews.{digests_left}
use Rattle.audit_text.specs.text.Change.{digest_hex}
use Rattle.audit_text.proofs.text.diff.change.digests.digests_hex.Given as goal

-- The digests so far and those to come are those of all.
abbrev pub invariant-loop-of : goal.invariant-loop-of
invariant-loop-of l = string_bytes l.text ++ flat_map (digest_hex l.algorithm.0) (digests_left l.of-iterator)
    ≡ flat_map (digest_hex l.algorithm.0) (digests_left l.initial.of-iterator)
