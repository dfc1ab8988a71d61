use Rattle.std.proofs.Common.{◌≡◌, ◌++◌, take, string_bytes}
use Rattle.std.specs.List.{flat_map}
use Rattle.audit_text.specs.text.Check.{counts_line}
use Rattle.audit_text.proofs.text.check.push_check.Given as goal

-- The lines of the types so far were appended.
abbrev pub invariant-loop-counts : goal.invariant-loop-counts
invariant-loop-counts g l =
    string_bytes l.text ≡ string_bytes l.initial.text ++ flat_map counts_line (take l.counts-index l.counts-items)
