use Rattle.std.proofs.Common.{◌∙◌, List, ap, arith, map, rules}
use Rattle.uefi_audits.specs.declared.diff.counterparts.PairedEvent.{PairedEvent}
use Rattle.uefi_audits.specs.diff.Counterparts.{Paired}
use Rattle.uefi_audits.specs.diff.Differences.{alone_in, if_alone}
use Rattle.uefi_audits.specs.private.diff.Ranks.{numbered_at, paired_of}
use Rattle.uefi_audits.proofs.FirstOnes.{all_taken}
use Rattle.uefi_audits.proofs.diff.Parted.{none_kept, one_kept, with_one, without}
use Rattle.uefi_audits.proofs.diff.counterparts.alone.Goals as goal
use Rattle.uefi_audits.proofs.diff.counterparts.alone.Goals.{then-is_none+in_ok-push, else-is_none}

pub loop-paired-preserved : goal.loop-paired-preserved
loop-paired-preserved c =
    elim c.if-is_none.branch [
      | then-is_none+in_ok-push w ↦ one_kept paired_of numbered_at (λ (paired : Paired). if_alone paired.found paired.counterpart)
          c.args.all.now c.loop-paired.found.items c.if-is_none.found.items c.loop-paired.paired-index c.paired-item.result
          c.paired-item.result.found c.loop-paired-test.true c.paired-item.is c.loop-paired.invariant
          (without c.paired-item.result.found c.paired-item.result.counterpart (search rules)) (search rules)
      | else-is_none w ↦ rw w.found-is (none_kept paired_of numbered_at
          (λ (paired : Paired). if_alone paired.found paired.counterpart) c.args.all.now c.loop-paired.found.items
          c.loop-paired.paired-index c.paired-item.result c.loop-paired-test.true c.paired-item.is c.loop-paired.invariant
          (with_one c.paired-item.result.found c.paired-item.result.counterpart (search rules)))
    ]

pub returns : goal.returns
returns c =
    c.loop-paired.invariant
    ∙ ap (λ (all : List PairedEvent). alone_in (map paired_of all))
    (all_taken c.args.all.now c.loop-paired.paired-index (omega (arith, c.loop-paired-test.false)))
