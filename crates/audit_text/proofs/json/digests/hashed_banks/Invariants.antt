use Rattle.std.proofs.Common.{take}
use Rattle.std.specs.List.{flat_map}
use Rattle.uefi_tcg.specs.LogViews.{event_of}
use Rattle.pcr_replay.specs.Banks.{all_banks}
use Rattle.audit_text.specs.json.Event.{hashed_bank}
use Rattle.audit_text.specs.private.JsonValues.{AreValuesOf}
use Rattle.audit_text.proofs.json.digests.hashed_banks.Given as goal

-- The names are those of the banks so far in which the digest is the hash.
abbrev pub invariant-loop-bank : goal.invariant-loop-bank
invariant-loop-bank l = AreValuesOf (flat_map (hashed_bank (event_of l.event)) (take l.bank-index all_banks)) l.names
