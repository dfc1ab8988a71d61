use Rattle.std.proofs.lemmas.Result.{IfOk-weaker}
use Rattle.uefi_examples.proofs.logs.events_of_part.Goals as goal

pub returns-clause-prefix : goal.returns-clause-prefix
returns-clause-prefix c =
    IfOk-weaker c.collected_events.result _ _
    (λ events part log whole. c.cut_v1.ensures c.args.bytes.now _ c.args.count log _ whole part)
    c.collected_events.ensures
