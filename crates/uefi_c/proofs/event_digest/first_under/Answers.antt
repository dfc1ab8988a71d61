use Rattle.uefi_tcg.specs.v2.Views.{digest_of, table_of}
use Rattle.uefi_c.proofs.FirstDigest.{one_passed}
use Rattle.uefi_c.proofs.event_digest.first_under.Goals as goal

pub loop-id-preserved : goal.loop-id-preserved
loop-id-preserved c =
    one_passed c.args.algorithm (table_of c.args.sizes.now) c.args.digests.now c.loop-id.rest.now c.in-Some.after.now
    (digest_of (c.in-Some.id, c.in-Some.digest)) c.in-Some.ensures.digest c.if-id-algorithm.false c.in-Some.ensures.split c.loop-id.invariant
