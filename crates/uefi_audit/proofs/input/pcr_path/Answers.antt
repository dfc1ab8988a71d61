use Rattle.std.proofs.Common.{append_assoc}
use Rattle.std.proofs.lemmas.Result.{IfOk-weaker}
use Rattle.uefi_audit.proofs.input.pcr_path.Goals as goal

pub returns : goal.returns
returns c =
    IfOk-weaker c.format.result _ _
    (λ path is. simp append_assoc (simp (append_assoc, c.bank_name-name.ensures) at is)) c.format.ensures.ok
