use Rattle.std.proofs.lemmas.Result.{IfOk-weaker}
use Rattle.uefi_tcg.specs.v2.Header.{after_event}
use Rattle.uefi_examples.proofs.DigestSteps.{log_of, has_same, begins_with}
use Rattle.uefi_examples.proofs.digest_logs.events_again_after_header_event.Goals as goal

pub returns-clause-same : goal.returns-clause-same
returns-clause-same c =
    has_same c.events_after_header_event.result _ _ _ _ c.events_after_header_event.ensures c.one_log_v2.ensures
    c.local_v2.ensures

pub returns-clause-begins : goal.returns-clause-begins
returns-clause-begins c =
    begins_with c.events_after_header_event.result _ _ _ _ c.events_after_header_event.ensures c.local_v2.ensures

pub returns-clause-grown : goal.returns-clause-grown
returns-clause-grown c =
    IfOk-weaker c.events_after_header_event.result _ _
    (λ events log earlier ended same later ends.
    (c.local_v2.ensures.growth after_event earlier
    (log_of after_event c.args.bytes.now c.args.last_entry _ log) ended ends same later).1)
    c.events_after_header_event.ensures
