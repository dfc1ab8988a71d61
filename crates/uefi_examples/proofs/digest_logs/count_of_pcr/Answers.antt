use Rattle.std.proofs.Common.{arith, true, false, sym, ◌≡◌, ◌+◌, cond, Bool, ℕ, List, ◌∷◌}
use Rattle.std.specs.Prelude.{◌==◌, count_by}
use Rattle.std.proofs.lemmas.List.Sums.{sum_by-cons}
use Rattle.uefi_tcg.specs.v2.Event.{Event}
use Rattle.uefi_examples.proofs.digest_logs.count_of_pcr.Goals as goal

-- The first of the events to come is counted if it passes.
counted_more : (test : Event → Bool) (count total : ℕ) (event : Event) (events rest : List Event) (passes : Bool)
    → events ≡ event ∷ rest → test event ≡ passes
    → count + count_by test events ≡ total → count + cond passes 1 0 + count_by test rest ≡ total
counted_more test count total event events rest passes is tested counted =
    let first = sum_by-cons (λ (e : Event). cond (test e) 1 0) event rest in
    let all = rw (is, tested) at counted in omega (arith, rw tested at first)

pub loop-event-preserved-then-eq : goal.loop-event-preserved-then-eq
loop-event-preserved-then-eq c = record {
  counted = counted_more
      (λ event. event.pcr_index == c.args.pcr.0) c.loop-event.count _ _ _ c.next.new.self.events true
      c.in-Some.ensures.steps (sym (rw c.pcr_index.ensures at c.if-eq.ensures)) c.loop-event.invariant.counted;
  within = omega (arith, rw c.in-Some.ensures.steps at c.loop-event.invariant.within);
}

pub loop-event-preserved : goal.loop-event-preserved
loop-event-preserved c = record {
  counted =
      let same = counted_more
      (λ event. event.pcr_index == c.args.pcr.0) c.loop-event.count _ _ _ c.next.new.self.events false
      c.in-Some.ensures.steps (sym (rw c.pcr_index.ensures at c.if-eq.ensures)) c.loop-event.invariant.counted in
      omega (arith, same);
  within = omega (arith, rw c.in-Some.ensures.steps at c.loop-event.invariant.within);
}
