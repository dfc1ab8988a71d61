use Rattle.std.proofs.Common.{◌∙◌, ap, arith, map}
use Rattle.std.proofs.lemmas.List.{map-append}
use Rattle.uefi_audits.specs.private.diff.Ranks.{numbered_at}
use Rattle.uefi_audits.proofs.diff.Pcrs.{none_kept, one_kept}
use Rattle.uefi_audits.proofs.diff.pcr.entries_of.Goals as goal
use Rattle.uefi_audits.proofs.diff.pcr.entries_of.Goals.{then-is_of+in_ok-push, else-is_of}

pub loop-entry-preserved : goal.loop-entry-preserved
loop-entry-preserved c =
    elim c.if-is_of.branch [
      | then-is_of+in_ok-push w ↦ rw w.found-is (one_kept c.args.pcr c.args.all.now c.loop-entry.found.items w.push.new.self.items
          c.loop-entry.entry-index c.entry-item.result c.is_of.result (omega (arith, c.loop-entry-test.true))
          c.loop-entry.invariant c.entry-item.is c.is_of.ensures w.if-is_of.true
          (ap (map numbered_at) w.in_ok-push.ensures.items ∙ map-append numbered_at c.loop-entry.found.items _))
      | else-is_of w ↦ rw w.found-is (none_kept c.args.pcr c.args.all.now c.loop-entry.found.items
          c.loop-entry.entry-index c.entry-item.result c.is_of.result (omega (arith, c.loop-entry-test.true))
          c.loop-entry.invariant c.entry-item.is c.is_of.ensures w.if-is_of.false)
    ]
