use Rattle.std.proofs.Common.{refl}
use Rattle.uefi_audits.proofs.content.Printed.{not_printed}
use Rattle.uefi_audits.proofs.content.text_content.Goals as goal

pub returns-in_default : goal.returns-in_default
returns-in_default c = simp (not_printed c.args.bytes.now c.in_default.ensures.cases.0) refl
