use Rattle.std.proofs.Common.{sym, subst, arith, drop}
use Rattle.tcg_event.specs.Signature.{HasSize, signature_bytes}
use Rattle.uefi_c.specs.Signatures.{signature_seen}
use Rattle.uefi_c.proofs.Cursors.{moves, within}
use Rattle.uefi_c.proofs.SignatureLists.{some_signature_bytes}
use Rattle.uefi_c.proofs.WalkSteps.{Passed, none_yet, one_more}
use Rattle.uefi_c.proofs.callers.signatures.signatures_by_steps.Goals as goal

pub loop-signature-init : goal.loop-signature-init
loop-signature-init g c = subst (Passed signature_seen (HasSize c.args.signature_size) signature_bytes c.args.signatures.now 0)
    (sym c.new-views.ensures.items) (none_yet signature_seen (HasSize c.args.signature_size) signature_bytes c.args.signatures.now)

pub loop-signature-smaller : goal.loop-signature-smaller
loop-signature-smaller g c =
    let new = c.uefi_signature_next.new in
    let stands = c.uefi_signature_next.ensures.stands c.loop-signature-test.true in
    let some = some_signature_bytes c.args.signature_size (signature_seen new.out) (c.uefi_signature_next.ensures.signature c.loop-signature-test.true) in
    omega (
      arith,
      moves (signature_bytes (signature_seen new.out)) c.args.signatures.now c.loop-signature.offset new.offset stands some,
      within (signature_bytes (signature_seen new.out)) c.args.signatures.now c.loop-signature.offset new.offset stands some,
    )

pub loop-signature-preserved : goal.loop-signature-preserved
loop-signature-preserved g c =
    let new = c.uefi_signature_next.new in
    one_more signature_seen (HasSize c.args.signature_size) signature_bytes c.args.signatures.now c.loop-signature.offset new.offset new.out
    (c.uefi_signature_next.ensures.signature c.loop-signature-test.true) (c.uefi_signature_next.ensures.stands c.loop-signature-test.true) c.loop-signature.views.items
    c.push.new.self.items c.in_ok-push.ensures.items c.loop-signature.invariant

pub returns : goal.returns
returns g c = record {
  each = c.loop-signature.invariant.each;
  rest = drop c.loop-signature.offset c.args.signatures.now;
  split = c.loop-signature.invariant.split;
  no_more = c.uefi_signature_next.ensures.none c.loop-signature-test.false;
}
