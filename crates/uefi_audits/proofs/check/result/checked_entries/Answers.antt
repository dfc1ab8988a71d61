use Rattle.std.proofs.Common.{arith}
use Rattle.uefi_audits.proofs.Findings.{one_found}
use Rattle.uefi_audits.proofs.check.result.checked_entries.Goals as goal

pub loop-entry-preserved : goal.loop-entry-preserved
loop-entry-preserved g c =
    one_found _ c.args.entries.now c.loop-entry.found.items c.push.new.self.items
    (record { entry = c.entry-item.result; checked = c.in_ok-checked.checked }) c.loop-entry.entry-index
    (omega (arith, c.loop-entry-test.true)) c.loop-entry.invariant c.entry-item.is c.in_ok-checked.ensures
    c.in_ok-push.ensures.items
