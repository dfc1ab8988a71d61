use Rattle.uefi_c.proofs.FirstDigest.{answers, none_answers}
use Rattle.uefi_c.proofs.event_digest.uefi_event_digest.Goals as goal

pub returns-in-Ok-clause-digest : goal.returns-in-Ok-clause-digest
returns-in-Ok-clause-digest c = λ digests are.
    answers c.args.event.now c.args.algorithm c.in-Ok.digest.now digests c.in-Ok.ensures.of_1 c.in-Ok.ensures.of_2 are

pub returns-in-Err-clause-digest : goal.returns-in-Err-clause-digest
returns-in-Err-clause-digest c = λ digests are.
    none_answers c.args.event.now c.args.algorithm c.in-Err.status c.args.out.now.now digests c.in-Err.ensures.of_1 c.in-Err.ensures.of_2 are
