use Rattle.std.proofs.Common.{ap}
use Rattle.uefi_tcg.specs.LogInput.{LogInput}
use Rattle.uefi_examples.proofs.LogSteps.{step_there}
use Rattle.uefi_examples.proofs.logs.first_step.Goals as goal

pub returns : goal.returns
returns c =
    let at =
    c.iter-events.ensures.begins c.args.bytes.now c.args.last_entry
    (ap (λ (log : LogInput). log.bytes) c.new-log.ensures)
    (ap (λ (log : LogInput). log.last_entry) c.new-log.ensures) in
    step_there 0 c.args.last_entry c.args.bytes.now c.iter-events.result c.next.result at c.next.ensures.keeps
