use Rattle.audit_text.specs.text.Missing.{missing_line}
use Rattle.audit_text.proofs.text.Appending.{lines_upto}
use Rattle.audit_text.proofs.text.missing.push_missing.Goals as goal

pub loop-pcr-preserved : goal.loop-pcr-preserved
unfolding missing_line
loop-pcr-preserved g c =
    lines_upto (missing_line c.args.name.now) c.args.missing.now c.loop-pcr.pcr-index _ _ _ _ c.loop-pcr-test.true
    c.loop-pcr.invariant (simp c.bank_name-bank.ensures at c.in_ok-writeln.ensures.bytes)
