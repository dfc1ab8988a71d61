use Rattle.uefi_examples.proofs.NamedRecords.{has_name, has_none}
use Rattle.uefi_examples.proofs.records.name_length.Goals as goal

pub returns-clause-accepted : goal.returns-clause-accepted
returns-clause-accepted c = λ _. has_name _ _ c.from_uefi.result c.in_ok-info.info c.from_uefi.ensures.verdict
    c.in_ok-info.ensures.value

pub returns-in_err-info-clause-found : goal.returns-in_err-info-clause-found
returns-in_err-info-clause-found c =
    λ name is. absurd (has_none _ _ c.from_uefi.result name c.from_uefi.ensures.verdict c.in_err-info.ensures.value is)
