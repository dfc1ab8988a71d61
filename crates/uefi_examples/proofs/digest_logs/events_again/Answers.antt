use Rattle.uefi_examples.proofs.DigestSteps.{has_same, begins_with}
use Rattle.uefi_examples.proofs.digest_logs.events_again.Goals as goal

pub returns-clause-same : goal.returns-clause-same
returns-clause-same c =
    has_same c.collected_events.result _ _ _ _ c.collected_events.ensures c.one_log_v2.ensures c.local_v2.ensures

pub returns-clause-begins : goal.returns-clause-begins
returns-clause-begins c = begins_with c.collected_events.result _ _ _ _ c.collected_events.ensures c.local_v2.ensures
