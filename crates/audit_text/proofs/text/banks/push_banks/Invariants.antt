use Rattle.std.proofs.Common.{◌≡◌, ◌++◌, map, take, string_bytes}
use Rattle.std.specs.List.{flat_map}
use Rattle.pcr_replay.specs.BankReplays.{bank_outcomes_of}
use Rattle.audit_text.specs.text.Pcrs.{bank_lines}
use Rattle.audit_text.proofs.text.banks.push_banks.Given as goal

-- The lines of the banks so far were appended.
abbrev pub invariant-loop-bank : goal.invariant-loop-bank
invariant-loop-bank g l = string_bytes l.text
    ≡ string_bytes l.initial.text ++ flat_map bank_lines (map bank_outcomes_of (take l.bank-index l.banks))
