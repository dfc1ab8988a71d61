use Rattle.audit_text.specs.text.Remarks.{inactive_line}
use Rattle.audit_text.proofs.text.Appending.{lines_upto}
use Rattle.audit_text.proofs.text.unreplayed.push_inactive.Goals as goal

pub loop-bank-preserved : goal.loop-bank-preserved
unfolding inactive_line
loop-bank-preserved g c =
    lines_upto (inactive_line c.args.name.now) c.args.banks.now c.loop-bank.bank-index _ _ _ _ c.loop-bank-test.true
    c.loop-bank.invariant (simp c.bank_name-bank.ensures at c.in_ok-writeln.ensures.bytes)
