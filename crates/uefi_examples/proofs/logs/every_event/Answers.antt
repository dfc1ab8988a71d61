use Rattle.std.proofs.lemmas.Result.{IfOk-weaker}
use Rattle.uefi_examples.proofs.logs.every_event.Goals as goal

pub returns : goal.returns
returns c = IfOk-weaker c.collected_events.result _ _
    (λ events log others keep. c.one_log_v1.ensures.every _ _ _ others log keep) c.collected_events.ensures
