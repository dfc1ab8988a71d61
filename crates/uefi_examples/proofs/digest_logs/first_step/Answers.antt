use Rattle.std.proofs.Common.{ap}
use Rattle.uefi_tcg.specs.LogInput.{LogInput}
use Rattle.uefi_tcg.specs.v2.Header.{events_start}
use Rattle.uefi_examples.proofs.DigestSteps.{step_there}
use Rattle.uefi_examples.proofs.digest_logs.first_step.Goals as goal

pub returns : goal.returns
returns c = λ header has.
    let at =
    c.iter-events.ensures.begins c.args.bytes.now c.args.last_entry (record { event = has.0; header = header })
    (ap (λ (log : LogInput). log.bytes) c.new-log.ensures)
    (ap (λ (log : LogInput). log.last_entry) c.new-log.ensures) has.1 in
    step_there header.table (events_start header) c.args.last_entry c.args.bytes.now c.iter-events.result
    c.next.result at c.next.ensures.keeps
