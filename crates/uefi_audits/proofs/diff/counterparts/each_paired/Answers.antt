use Rattle.std.proofs.Common.{ap, arith, map}
use Rattle.uefi_audits.specs.private.diff.Ranks.{paired_by}
use Rattle.uefi_audits.proofs.FirstOnes.{all_taken}
use Rattle.std.proofs.Common.{◌∙◌}
use Rattle.uefi_audits.proofs.diff.counterparts.each_paired.Goals as goal

pub returns : goal.returns
returns c =
    c.loop-ranked.invariant
    ∙ ap (map (paired_by c.args.places.now))
    (all_taken c.args.all.now c.loop-ranked.ranked-index (omega (arith, c.loop-ranked-test.false)))
