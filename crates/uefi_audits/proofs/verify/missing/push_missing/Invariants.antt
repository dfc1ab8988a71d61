use Rattle.std.proofs.Common.{◌≡◌, ◌++◌, map}
use Rattle.std.specs.List.{filter, range_with_len}
use Rattle.uefi_audits.specs.verify.Missing.{is_missing}
use Rattle.uefi_audits.proofs.verify.missing.push_missing.Given as goal

-- Those of the PCRs so far were appended.
abbrev pub invariant-loop-pcr : goal.invariant-loop-pcr
invariant-loop-pcr g l = l.missing.items ≡ l.initial.missing.items
    ++ map (λ pcr. record { bank = l.bank; pcr = pcr }) (filter (is_missing l.selections l.stated l.bank) (range_with_len 0 l.pcr))
