use Rattle.std.proofs.Common.{◌∙◌, List, ap, arith, map, rules}
use Rattle.std.specs.Borrow.{Bor}
use Rattle.std.specs.Prelude.{Option, option_map}
use Rattle.uefi_audits.specs.declared.diff.counterparts.PairedEvent.{PairedEvent}
use Rattle.uefi_audits.specs.declared.diff.pcr.NumberedEntry.{NumberedEntry}
use Rattle.uefi_audits.specs.diff.Differences.{change_in, changes_in}
use Rattle.uefi_audits.specs.private.diff.Ranks.{numbered_at, pair_of, paired_of}
use Rattle.uefi_audits.proofs.FirstOnes.{all_taken}
use Rattle.uefi_audits.proofs.diff.Parted.{none_kept, one_kept}
use Rattle.uefi_audits.proofs.diff.changed.changes_in.Goals as goal
use Rattle.uefi_audits.proofs.diff.changed.changes_in.Goals.{in-Some+in_ok-push, in_default}

pub loop-paired-preserved : goal.loop-paired-preserved
loop-paired-preserved c =
    elim c.match-paired.branch [
      | in-Some+in_ok-push w ↦ one_kept paired_of pair_of change_in c.args.all.now c.loop-paired.found.items
          c.match-paired.found.items c.loop-paired.paired-index c.paired-item.result
          (record { old = c.paired-item.result.found; new = w.in-Some.new }) c.loop-paired-test.true c.paired-item.is
          c.loop-paired.invariant
          (ap (λ (it : Option (Bor NumberedEntry)). change_in (record { found = numbered_at c.paired-item.result.found; counterpart = option_map numbered_at it }))
          w.in-Some.is) (search rules)
      | in_default w ↦ rw w.found-is (none_kept paired_of pair_of change_in c.args.all.now c.loop-paired.found.items
          c.loop-paired.paired-index c.paired-item.result c.loop-paired-test.true c.paired-item.is c.loop-paired.invariant
          (ap (λ (it : Option (Bor NumberedEntry)). change_in (record { found = numbered_at c.paired-item.result.found; counterpart = option_map numbered_at it }))
          w.in_default.is))
    ]

pub returns : goal.returns
returns c =
    c.loop-paired.invariant
    ∙ ap (λ (all : List PairedEvent). changes_in (map paired_of all))
    (all_taken c.args.all.now c.loop-paired.paired-index (omega (arith, c.loop-paired-test.false)))
