use Rattle.std.proofs.lemmas.Result.{IfOk-weaker}
use Rattle.uefi_examples.proofs.LogSteps.{log_of}
use Rattle.uefi_examples.proofs.logs.events_so_far.Goals as goal

pub returns : goal.returns
returns c =
    IfOk-weaker c.collected_events.result _ _
    (λ events log earlier ended same later begins within.
    c.local_v1.ensures.growth earlier (log_of c.args.bytes.now c.args.last_entry _ log) ended begins within same later)
    c.collected_events.ensures
