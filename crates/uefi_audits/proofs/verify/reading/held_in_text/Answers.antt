use Rattle.std.proofs.Common.{arith, inr}
use Rattle.uefi_audits.specs.private.verify.Views.{stated_of}
use Rattle.uefi_audits.proofs.verify.Texts.{line_read, not_read, shorter, stopped}
use Rattle.uefi_audits.proofs.verify.reading.held_in_text.Goals as goal

pub returns-in_default-2-clause-error : goal.returns-in_default-2-clause-error
returns-in_default-2-clause-error g c =
    let nothing = rw c.in_default-2.is at c.in_ok-next.ensures in
    stopped c.args.text.now c.loop-rest.rest.now (stated_of c.loop-rest.held c.loop-rest.section) _ c.loop-rest.invariant.reads
    (omega (arith, c.loop-rest.invariant.within))
    (inr (
      c.in-Some.bytes.now,
      c.in-Some.after.now,
      c.in-Some.ensures.1,
      c.in-Some.ensures.0,
      not_read _ _ _ c.without_return-line.ensures nothing,
    ))

pub loop-rest-preserved : goal.loop-rest-preserved
loop-rest-preserved g c =
    let bytes = c.in-Some.bytes.now in
    let after = c.in-Some.after.now in
    let less = shorter c.loop-rest.rest.now bytes after c.in-Some.ensures.1 in
    let adds = rw c.in-Some-2.is at c.in_ok-next.ensures in
    record {
      within = omega (arith, less, c.loop-rest.invariant.within);
      reads = line_read c.args.text.now (stated_of c.loop-rest.held c.loop-rest.section) _ c.loop-rest.rest.now
          bytes after c.loop-rest.invariant.reads c.in-Some.ensures.1 (record {
            no_break = c.in-Some.ensures.0;
            line = c.without_return-line.result.now;
            without_return = c.without_return-line.ensures;
            adds = adds;
          });
    }
