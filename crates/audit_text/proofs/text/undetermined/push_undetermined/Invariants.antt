use Rattle.std.proofs.Common.{◌≡◌, ◌++◌, map, take, string_bytes}
use Rattle.std.specs.List.{flat_map}
use Rattle.pcr_replay.specs.BankReplays.{bank_outcomes_of}
use Rattle.audit_text.specs.text.Undetermined.{undetermined_lines}
use Rattle.audit_text.proofs.text.undetermined.push_undetermined.Given as goal

-- The lines of the banks so far were appended.
abbrev pub invariant-loop-bank : goal.invariant-loop-bank
invariant-loop-bank g l = string_bytes l.told
    ≡ string_bytes l.initial.told
    ++ flat_map (undetermined_lines l.name) (map bank_outcomes_of (take l.bank-index l.banks))
