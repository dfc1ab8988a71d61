use Rattle.std.proofs.Common.{◌-◌, ◌≤◌, length, drop, arith, length-take, length-drop, subst, List, ℕ}
use Rattle.std.specs.Io.KnownBytes.{Appends}
use Rattle.std.proofs.lemmas.List.{take_all}
use Rattle.std.proofs.lemmas.Grind.{common_steps}
use Rattle.uefi_listing.proofs.Sending.{Appends-take_more}
use Rattle.uefi_listing.proofs.run.run.Goals as goal

pub loop-sent-preserved : goal.loop-sent-preserved
loop-sent-preserved g c =
    let sent = c.loop-sent.sent in
    let text = c.deref.result.now in
    let before = rw (← c.deref.ensures.value) at c.loop-sent.invariant.taken in
    let within : sent ≤ length text = omega (arith, c.deref.ensures.len, c.loop-sent.invariant.within) in
    let rest_length = length-take (length text - sent) (drop sent text) in
    let more = Appends-take_more _ _ _ text sent c.in-Ok.taken within c.in-Ok.ensures.bound before
    c.in-Ok.ensures.bytes in
    record {
      within = omega (arith, c.deref.ensures.len, c.in-Ok.ensures.bound, rest_length, length-drop sent text);
      taken = rw c.deref.ensures.value at more;
    }

pub returns-clause-whole : goal.returns-clause-whole
returns-clause-whole g c =
    let text = c.in_ok-text.text.items in
    let all = take_all c.loop-sent.sent text (omega (arith, c.len.ensures, c.loop-sent-test.false)) in (
      text,
      c.in_ok-text.ensures,
      subst (λ (sent : List ℕ). Appends (g.W.Write.contents c.args.out.now)
          (g.W.Write.contents c.loop-sent.out) sent) all c.loop-sent.invariant.taken,
    )

pub loop-sent-smaller : goal.loop-sent-smaller
loop-sent-smaller g c = grind (arith, common_steps)

pub overflow_add-sent : goal.overflow_add-sent
overflow_add-sent g c = grind (arith, common_steps)

pub returns-in-Ok-eq0-clause-part : goal.returns-in-Ok-eq0-clause-part
returns-in-Ok-eq0-clause-part g c = grind (arith, common_steps)
