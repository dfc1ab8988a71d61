use Rattle.std.proofs.Common.{ℕ, List, subst, sym}
use Rattle.std.specs.Str.{IsUtf8}
use Rattle.uefi_audits.proofs.verify.BankNames.{name_is_text}
use Rattle.uefi_audits.proofs.verify.selection.bank_of_name.Goals as goal

pub returns-in-Err : goal.returns-in-Err
returns-in-Err c = λ bank is.
    c.in-Err.ensures.cases.0 (subst (λ (name : List ℕ). IsUtf8 name) (sym is) (name_is_text bank))
