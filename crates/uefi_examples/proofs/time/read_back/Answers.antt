use Rattle.std.proofs.Common.{◌∙◌, subst}
use Rattle.std.specs.Prelude.{IfErr}
use Rattle.uefi_records.specs.time.Reading.{RefusesTime}
use Rattle.uefi_examples.proofs.time.read_back.Goals as goal

-- The bytes that are read are those of the time.
pub returns-clause-refused : goal.returns-clause-refused
returns-clause-refused c =
    subst (λ bytes. IfErr c.try_from.result (RefusesTime bytes))
    (c.as_slice.ensures ∙ c.to_bytes-bytes.ensures.bytes) c.try_from.ensures.err
