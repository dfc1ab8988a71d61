use Rattle.std.proofs.Common.{◌∙◌, ap}
use Rattle.std.proofs.lemmas.Result.{IfOk-weaker}
use Rattle.uefi_records.specs.time.Fields.{without_pads}
use Rattle.uefi_examples.proofs.time.known_time.Goals as goal

-- The time that is read is in the bytes, as the known one does, and at most one time does.
pub returns-clause-same : goal.returns-clause-same
returns-clause-same c =
    IfOk-weaker c.try_from.result _ _ (λ read found. found.2
    ∙ ap without_pads (c.one_time.ensures found.0 _ c.args.bytes.now found.1 c.requires)) c.try_from.ensures.ok
