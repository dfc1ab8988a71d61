use Rattle.std.proofs.Common.{sym, subst, arith}
use Rattle.uefi_tcg.specs.v2.Digests.{digest_bytes}
use Rattle.uefi_tcg.specs.v2.Reading.{rows_in}
use Rattle.uefi_c.specs.Log2.{digest_seen}
use Rattle.uefi_c.proofs.Cursors.{moves, within}
use Rattle.uefi_c.proofs.DigestSteps.{Left, none_yet, some_bytes, one_less, none_left}
use Rattle.uefi_c.proofs.callers.log2.digests_by_steps.Goals as goal

pub loop-digest-init : goal.loop-digest-init
loop-digest-init g c = λ all are is.
    let table = rows_in c.args.rows.now in
    subst (Left table all c.args.digests.now 0) (sym c.new-views.ensures.items)
    (none_yet table all c.args.digests.now are is)

pub loop-digest-smaller : goal.loop-digest-smaller
loop-digest-smaller g c =
    let new = c.uefi_digest_next.new in
    let digest = digest_seen new.out in
    let stands = c.uefi_digest_next.ensures.stands c.loop-digest-test.true in
    omega (
      arith,
      moves (digest_bytes digest) c.args.digests.now c.loop-digest.offset new.offset stands (some_bytes digest),
      within (digest_bytes digest) c.args.digests.now c.loop-digest.offset new.offset stands (some_bytes digest),
    )

pub loop-digest-preserved : goal.loop-digest-preserved
loop-digest-preserved g c = λ all are is.
    let new = c.uefi_digest_next.new in
    let ensures = c.uefi_digest_next.ensures in
    one_less (rows_in c.args.rows.now) c.args.digests.now c.loop-digest.offset new.offset new.out (ensures.digest c.loop-digest-test.true)
    (ensures.stands c.loop-digest-test.true) all c.loop-digest.views.items c.push.new.self.items c.in_ok-push.ensures.items
    (c.loop-digest.invariant all are is)

pub returns : goal.returns
returns g c = λ few all are is.
    none_left (rows_in c.args.rows.now) all c.args.digests.now c.loop-digest.offset c.loop-digest.views.items
    (c.uefi_digest_next.ensures.none c.loop-digest-test.false few) (c.loop-digest.invariant all are is)
