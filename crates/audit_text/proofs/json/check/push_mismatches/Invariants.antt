use Rattle.std.proofs.Common.{◌≡◌, ◌++◌, map, take, string_bytes}
use Rattle.std.specs.List.{flat_map}
use Rattle.uefi_audits.specs.CheckResult.{mismatch_of}
use Rattle.audit_text.specs.json.Check.{mismatch_line}
use Rattle.audit_text.proofs.json.check.push_mismatches.Given as goal

-- The lines of the events so far were appended.
abbrev pub invariant-loop-mismatch : goal.invariant-loop-mismatch
invariant-loop-mismatch l =
    string_bytes l.text
    ≡ string_bytes l.initial.text ++ flat_map (mismatch_line l.log) (map mismatch_of (take l.mismatch-index l.mismatches))
