use Rattle.std.proofs.lemmas.Result.{IfOk-weaker}
use Rattle.uefi_examples.proofs.LogSteps.{log_of, same_again}
use Rattle.uefi_examples.proofs.logs.events_again.Goals as goal

pub returns-clause-same : goal.returns-clause-same
returns-clause-same c =
    IfOk-weaker c.collected_events.result _ _
    (λ events log. same_again c.one_log_v1.ensures c.local_v1.ensures (log_of c.args.bytes.now c.args.last_entry _ log))
    c.collected_events.ensures

pub returns-clause-begins : goal.returns-clause-begins
returns-clause-begins c =
    IfOk-weaker c.collected_events.result _ _
    (λ events log earlier end ends same later.
    c.local_v1.ensures.longer earlier (log_of c.args.bytes.now c.args.last_entry _ log) end ends same later)
    c.collected_events.ensures
