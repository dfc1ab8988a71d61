use Rattle.std.proofs.Common.{List, ℕ, subst}
use Rattle.std.specs.Str.{IsUtf8}
use Rattle.uefi_audits.proofs.verify.LineForms.{same_name}
use Rattle.uefi_audits.proofs.verify.line.bank_in_line.Goals as goal

pub returns-in-Err : goal.returns-in-Err
returns-in-Err c = λ name is.
    c.in-Err.ensures.cases.0 (subst (λ (n : List ℕ). IsUtf8 n)
    (same_name c.args.line.now name c.in-Some.name.now is.0 c.in-Some.ensures) is.1)
