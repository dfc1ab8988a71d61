use Rattle.std.proofs.Common.{◌≡◌, ◌∙◌, ap, sym, ℕ, List}
use Rattle.std.proofs.lemmas.Result.{IfOk-weaker}
use Rattle.uefi_records.specs.Laws.{TimesReadBack}
use Rattle.uefi_records.specs.time.Fields.{StandsIn, TimeFields, time_in, without_pads}
use Rattle.uefi_examples.proofs.time.first_time.Goals as goal

-- A time that bytes contain is the one that is read there.
stands_alone : TimesReadBack → (time : TimeFields) (bytes : List ℕ) → StandsIn time bytes → time ≡ time_in bytes
stands_alone law time bytes stands = sym (ap time_in stands.1.1 ∙ law.written time stands.1.0 stands.0)

pub returns-clause-fields : goal.returns-clause-fields
returns-clause-fields c =
    IfOk-weaker c.try_from.result _ _ (λ time found. found.2
    ∙ ap without_pads (stands_alone c.times_read_back.ensures found.0 c.args.bytes.now found.1)) c.try_from.ensures.ok
