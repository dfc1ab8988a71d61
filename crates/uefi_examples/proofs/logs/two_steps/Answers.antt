use Rattle.std.proofs.Common.{◌≡◌, ◌+◌, ℕ, ◌∷◌, [], length, ap, subst, arith}
use Rattle.uefi_tcg.specs.LogInput.{LogInput}
use Rattle.uefi_tcg.specs.v1.Log.{EventsKeep}
use Rattle.uefi_tcg.specs.v1.Views.{bytes_of_event, event_of}
use Rattle.uefi_examples.proofs.LogSteps.{IsAt, keeps_there, moved_on}
use Rattle.uefi_examples.proofs.logs.two_steps.Goals as goal

-- Where the iterator stands before its first step.
begins : (c : goal.In_ok-second) → IsAt 0 c.args.last_entry c.args.bytes.now c.iter-events.result
begins c =
    c.iter-events.ensures.begins c.args.bytes.now c.args.last_entry
    (ap (λ (log : LogInput). log.bytes) c.new-log.ensures) (ap (λ (log : LogInput). log.last_entry) c.new-log.ensures)

pub returns-clause-first : goal.returns-clause-first
returns-clause-first c = keeps_there 0 c.args.last_entry c.args.bytes.now c.iter-events.result
    (event_of c.in_ok-first.first) (begins c) c.in_ok-first.ensures.keeps

pub returns-clause-second : goal.returns-clause-second
returns-clause-second c =
    let size = length (bytes_of_event c.in_ok-first.first) in
    let before = c.in_ok-first.ensures in
    let event = event_of c.in_ok-second.second in
    let at = moved_on 0 c.args.last_entry size c.args.bytes.now c.iter-events.result c.next.new.self
    (begins c) before.bytes before.last_entry before.offset in
    let start : 0 + size ≡ size = omega arith in
    subst (λ (s : ℕ). EventsKeep (event ∷ []) s c.args.last_entry c.args.bytes.now) start
    (keeps_there (0 + size) c.args.last_entry c.args.bytes.now c.next.new.self event at c.in_ok-second.ensures.keeps)
