use Rattle.std.proofs.Common.{◌≡◌, ◌++◌, string_bytes}
use Rattle.std.specs.Prelude.{flat_map}
use Rattle.uefi_tcg.specs.LogViews.{digests_left}
use Rattle.audit_text.specs.text.Events.{digest_line}
use Rattle.audit_text.proofs.text.events.blocks.push_body.Given as goal

-- The lines so far and those of the digests to come are those of all.
abbrev pub invariant-loop-algorithm : goal.invariant-loop-algorithm
invariant-loop-algorithm l = string_bytes l.text ++ flat_map digest_line (digests_left l.algorithm-iterator)
    ≡ string_bytes l.initial.text ++ flat_map digest_line (digests_left l.initial.algorithm-iterator)
