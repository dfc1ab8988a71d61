-- PCRs by their banks and numbers.
use Rattle.uefi_audits.specs.declared.verify.held.HeldPcr.{HeldPcr}
use Rattle.uefi_audits.specs.declared.verify.named.NamedPcr.{NamedPcr}

-- Which PCR a TPM held.
abbrev pub name_of : HeldPcr → NamedPcr
name_of held = record { bank = held.bank; pcr = held.pcr }
