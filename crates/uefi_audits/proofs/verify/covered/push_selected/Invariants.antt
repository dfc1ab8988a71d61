use Rattle.std.proofs.Common.{◌≡◌, ◌++◌, map}
use Rattle.tpm_quote.specs.Views.{pcrs_left}
use Rattle.uefi_audits.proofs.verify.covered.push_selected.Given as goal

-- The PCRs so far and those that are left are all.
abbrev pub invariant-loop-pcr : goal.invariant-loop-pcr
invariant-loop-pcr g l =
    l.covered.items ++ map (λ pcr. record { bank = l.bank; pcr = pcr }) (pcrs_left l.pcr-iterator)
    ≡ l.initial.covered.items ++ map (λ pcr. record { bank = l.bank; pcr = pcr }) (pcrs_left l.initial.pcr-iterator)
