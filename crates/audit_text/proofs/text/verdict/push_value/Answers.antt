use Rattle.std.proofs.Common.{string_bytes}
use Rattle.std.proofs.lemmas.Result.{on_ok_weaker}
use Rattle.pcr_replay.specs.Views.{value_of}
use Rattle.audit_text.proofs.text.Appending.{first_value, other_value}
use Rattle.audit_text.proofs.text.verdict.push_value.Goals as goal

pub returns-then-pcr-eq0 : goal.returns-then-pcr-eq0
returns-then-pcr-eq0 g c =
    on_ok_weaker c.writeln.result
    (λ more. first_value c.args.pcr c.args.locality (value_of c.args.value.now) (string_bytes c.args.text.now) _
    c.if-pcr-eq0.true more)
    (simp (c.in_ok-digits.ensures, c.as_bytes.ensures) at c.writeln.ensures.bytes)

pub returns : goal.returns
returns g c =
    on_ok_weaker c.writeln-2.result
    (λ more. other_value c.args.pcr c.args.locality (value_of c.args.value.now) (string_bytes c.args.text.now) _
    c.if-pcr-eq0.false more)
    (simp (c.in_ok-digits.ensures, c.as_bytes.ensures) at c.writeln-2.ensures.bytes)
