use Rattle.std.proofs.Common.{◌≡◌, take}
use Rattle.std.specs.Prelude.{flat_map}
use Rattle.pcr_replay.specs.Banks.{all_banks}
use Rattle.uefi_audits.specs.verify.Missing.{missing_of}
use Rattle.uefi_audits.proofs.verify.missing.missing_pcrs.Given as goal

-- Those of the banks so far are missing.
abbrev pub invariant-loop-bank : goal.invariant-loop-bank
invariant-loop-bank g l = l.missing.items ≡ flat_map (missing_of l.selections l.stated) (take l.bank-index all_banks)
