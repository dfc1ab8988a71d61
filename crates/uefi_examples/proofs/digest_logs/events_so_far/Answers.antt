use Rattle.std.proofs.lemmas.Result.{IfOk-weaker}
use Rattle.uefi_tcg.specs.v2.Header.{after_header}
use Rattle.uefi_examples.proofs.DigestSteps.{log_of}
use Rattle.uefi_examples.proofs.digest_logs.events_so_far.Goals as goal

pub returns : goal.returns
returns c =
    IfOk-weaker c.collected_events.result _ _
    (λ events log earlier ended same later ends.
    (c.local_v2.ensures.growth after_header earlier
    (log_of after_header c.args.bytes.now c.args.last_entry _ log) ended ends same later).1)
    c.collected_events.ensures
