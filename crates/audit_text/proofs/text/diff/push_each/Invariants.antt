use Rattle.std.proofs.Common.{◌≡◌, ◌++◌, map, string_bytes, take}
use Rattle.std.specs.Prelude.{flat_map}
use Rattle.audit_text.specs.ComparedLogs.{logs_of}
use Rattle.audit_text.specs.text.Differences.{difference_line}
use Rattle.uefi_audits.specs.diff.Views.{event_difference_of}
use Rattle.audit_text.proofs.text.diff.push_each.Given as goal

-- The lines of the differences so far were appended.
abbrev pub invariant-loop-difference : goal.invariant-loop-difference
invariant-loop-difference l =
    string_bytes l.text
    ≡ string_bytes l.initial.text ++ flat_map (difference_line (logs_of l.logs)) (map event_difference_of (take l.difference-index l.differences))
